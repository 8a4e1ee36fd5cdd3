use Rattle.text.specs.Prelude.{Some}
use Rattle.text.proofs.Prelude.{rules, refl, ap, first, second, yes≤, no≤}
use Rattle.part.specs.Part.{name_from}
use Rattle.part.proofs.Part.from_column_or_none.Statement.{statement}
use Rattle.part.proofs.Part.from_column_or_none.Tie as tie

pub from_column_or_none_spec : {M : Type 1} → statement M
unfolding name_from
from_column_or_none_spec =
    tie.close (tie.spec (λ c. first _ (yes≤ (search rules)) refl) (search rules)
    (λ c. second _ (no≤ (search rules)) (ap (λ p. Some p) c.from_column.ensures)))
