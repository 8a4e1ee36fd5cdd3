use Rattle.text.proofs.Prelude.{arith, ◌∙◌}
use Rattle.claim.proofs.Piecing.{in_pieces}
use Rattle.claim.proofs.claim.Goals as goal

pub returns : goal.returns
returns c = rw (c.claim_on.ensures, c.new.ensures) at c.at_end.ensures ∙ in_pieces.whole _ (omega arith)
