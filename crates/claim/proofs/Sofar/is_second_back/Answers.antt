use Rattle.text.proofs.Prelude.{sym, ◌∙◌, holds, fails}
use Rattle.claim.specs.Step.{second_back}
use Rattle.claim.proofs.Sofar.is_second_back.Goals as goal

pub returns-then-self : goal.returns-then-self
unfolding second_back
returns-then-self c = sym (holds c.if-self.true (sym c.goes_back.ensures))

pub returns-else-self : goal.returns-else-self
unfolding second_back
returns-else-self c = c.if-self.false ∙ sym (fails _ c.if-self.false)
