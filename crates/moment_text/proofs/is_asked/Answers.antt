use Rattle.text.specs.Prelude.{◌=?◌}
use Rattle.text.proofs.Prelude.{sym, ◌∙◌, yes=, no=, holds, fails}
use Rattle.moment_text.specs.Answers.{is_asked_of}
use Rattle.moment_text.proofs.is_asked.Goals as goal

pub returns-then-word-eq6 : goal.returns-then-word-eq6
unfolding is_asked_of
returns-then-word-eq6 c = sym (holds (yes= c.if-word-eq6.true) (sym c.all_digits.ensures))

pub returns-else-word-eq6 : goal.returns-else-word-eq6
unfolding is_asked_of ◌=?◌
returns-else-word-eq6 c = no= c.if-word-eq6.false ∙ sym (fails _ (no= c.if-word-eq6.false))
