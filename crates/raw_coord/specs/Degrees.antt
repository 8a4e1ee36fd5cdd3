-- A coordinate in degrees, in the logic's IEEE 754: each step rounded once, to the nearest, ties to even.
use Rattle.text.specs.Prelude.{pos}
use Rattle.std.specs.Prelude.{Float}
use Rattle.std.specs.Float.{Format}
use Rattle.std.specs.Float.Ieee.{add, div, neg, of_int}
use Rattle.raw_coord.specs.declared.{Compass.Compass, RawCoord.RawCoord}
use Rattle.raw_coord.specs.declared.Compass.TheVariants.{North, South, East, West}

-- Negated for S and W, where zero becomes negative zero.
unfoldable pub by_sign : Compass → Float → Float
by_sign North x = x
by_sign East x = x
by_sign South x = neg x
by_sign West x = neg x

-- Degrees + thousandths / 60000.
unfoldable pub degrees_of : Format → RawCoord → Float
degrees_of f c = by_sign c.sign
    (add f (of_int f (pos c.degrees)) (div f (of_int f (pos c.minute_thousandths)) (of_int f (pos 60000))))
