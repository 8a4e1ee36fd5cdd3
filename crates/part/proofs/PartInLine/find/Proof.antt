use Rattle.text.proofs.Prelude.{rules, arith, refl, pass, stop, yes≤, no≤}
use Rattle.part.specs.Part.{find_part}
use Rattle.part.proofs.PartInLine.find.Statement.{statement}
use Rattle.part.proofs.PartInLine.find.Tie as tie

pub find_spec : {M : Type 1} → statement M
unfolding find_part
find_spec =
    tie.close (tie.spec (λ c. stop _ (no≤ (omega arith))) (search rules) (λ c. stop _ (no≤ (omega arith)))
    (λ c. pass _ (yes≤ (omega arith)) refl))
