use Rattle.text.proofs.Prelude.{arith, refl, first, second, yes≤, no≤}
use Rattle.claim.specs.Step.{claim_on_of}
use Rattle.claim.proofs.claim_on.Goals as goal

pub returns-then-before-piece : goal.returns-then-before-piece
unfolding claim_on_of
returns-then-before-piece c = second _ (no≤ (omega arith)) refl

pub returns : goal.returns
unfolding claim_on_of
returns c = first _ (yes≤ (omega arith)) c.claim_from.ensures
