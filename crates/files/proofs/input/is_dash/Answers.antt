use Rattle.text.specs.Prelude.{◌=?◌}
use Rattle.text.proofs.Prelude.{refl, sym, yes=, no=, holds, fails, ◌∙◌}
use Rattle.files.specs.Input.{is_dash_of}
use Rattle.files.proofs.input.is_dash.Goals as goal

pub returns-then-file-eq1 : goal.returns-then-file-eq1
unfolding is_dash_of ◌=?◌
returns-then-file-eq1 c = sym (holds (yes= c.if-file-eq1.true) refl)

pub returns-else-file-eq1 : goal.returns-else-file-eq1
unfolding is_dash_of ◌=?◌
returns-else-file-eq1 c = no= c.if-file-eq1.false ∙ sym (fails _ (no= c.if-file-eq1.false))
