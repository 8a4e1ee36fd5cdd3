use Rattle.text.specs.Prelude.{cut, ◌≤?◌}
use Rattle.text.proofs.Prelude.{refl, sym, ◌∙◌, holds, fails, yes≤, no≤}
use Rattle.a_record.specs.ARecord.{long_form}
use Rattle.a_record.proofs.is_long.Goals as goal

pub returns-then-line-ge9 : goal.returns-then-line-ge9
unfolding long_form cut
returns-then-line-ge9 c = c.all_digits.ensures ∙ sym (holds (yes≤ c.if-line-ge9.true) refl)

-- both are false
pub returns-else-line-ge9 : goal.returns-else-line-ge9
unfolding long_form cut ◌≤?◌
returns-else-line-ge9 c =
    let short = no≤ c.if-line-ge9.false in
    short ∙ sym (fails _ short)
