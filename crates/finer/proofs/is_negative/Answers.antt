use Rattle.text.specs.Prelude.{◌≡◌, true, false}
use Rattle.text.proofs.Prelude.{arith, rules, refl}
use Rattle.raw_coord.specs.declared.Compass.{Compass}
use Rattle.raw_coord.specs.declared.Compass.TheVariants.{North, South, East, West}
use Rattle.finer.specs.Finer.{is_negative_of}
use Rattle.finer.proofs.is_negative.Goals as goal

south : (sign : Compass) → sign ≡ South → true ≡ is_negative_of sign
unfolding is_negative_of
south sign e = rw e

west : (sign : Compass) → sign ≡ West → true ≡ is_negative_of sign
unfolding is_negative_of
west sign e = rw e

neither : (sign : Compass) → (sign ≡ South → ⊥) → (sign ≡ West → ⊥) → false ≡ is_negative_of sign
unfolding is_negative_of
neither North a b = refl
neither South a b = absurd (a refl)
neither East a b = refl
neither West a b = absurd (b refl)

pub returns-in-South : goal.returns-in-South
returns-in-South c = grind (arith, south, west)

pub returns-in_default : goal.returns-in_default
returns-in_default c = search (rules, neither)
