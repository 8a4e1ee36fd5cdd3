use Rattle.text.specs.Prelude.{is_digit_of, ◌≤?◌}
use Rattle.text.proofs.Prelude.{refl, sym, yes≤, no≤, holds, fails, ◌∙◌}
use Rattle.field.proofs.is_digit.Goals as goal

pub returns-then-b-ge48 : goal.returns-then-b-ge48
unfolding is_digit_of ◌≤?◌
returns-then-b-ge48 c = sym (holds (yes≤ c.if-b-ge48.true) refl)

pub returns-else-b-ge48 : goal.returns-else-b-ge48
unfolding is_digit_of ◌≤?◌
returns-else-b-ge48 c = no≤ c.if-b-ge48.false ∙ sym (fails _ (no≤ c.if-b-ge48.false))
