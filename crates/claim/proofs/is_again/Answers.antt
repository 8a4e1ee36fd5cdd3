use Rattle.text.proofs.Prelude.{sym, ◌∙◌, holds, fails}
use Rattle.claim.specs.Step.{seen_again}
use Rattle.claim.proofs.is_again.Goals as goal

pub returns-then-here : goal.returns-then-here
unfolding seen_again
returns-then-here c = sym (holds c.if-here.true (sym c.either.ensures))

pub returns-else-here : goal.returns-else-here
unfolding seen_again
returns-else-here c = c.if-here.false ∙ sym (fails _ c.if-here.false)
