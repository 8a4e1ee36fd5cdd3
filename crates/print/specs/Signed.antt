-- A signed number as the code takes it apart.
use Rattle.text.specs.Prelude.{suc, ℤ, pos, negsuc}
use Rattle.print.specs.declared.number.Signed.{Signed}
use Rattle.print.specs.declared.number.Signed.TheVariants.{Plus, Minus}

-- A number by its sign and its distance from 0.
abbrev pub split_of : ℤ → Signed
split_of (pos n) = Plus n
split_of (negsuc n) = Minus (suc n)
