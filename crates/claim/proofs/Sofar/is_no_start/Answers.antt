use Rattle.text.specs.Prelude.{◌=?◌}
use Rattle.text.proofs.Prelude.{refl, sym, ◌∙◌, yes=, no=, holds, fails}
use Rattle.claim.specs.Step.{no_start}
use Rattle.claim.proofs.Sofar.is_no_start.Goals as goal

pub returns-then-self-eq0 : goal.returns-then-self-eq0
unfolding no_start
returns-then-self-eq0 c = sym (holds (yes= c.if-self-eq0.true) refl)

pub returns-else-self-eq0 : goal.returns-else-self-eq0
unfolding no_start ◌=?◌
returns-else-self-eq0 c = no= c.if-self-eq0.false ∙ sym (fails _ (no= c.if-self-eq0.false))
