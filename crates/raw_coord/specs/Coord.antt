-- A coordinate of either kind.
use Rattle.std.specs.Prelude.{◌+◌, ◌∷◌, ◌++◌}
use Rattle.text.specs.Prelude.{ℕ, code, Bool, List, [], Res, ok, no, bind, guard, pick, ◌≤?◌, ◌=?◌}
use Rattle.text.specs.Prelude.{◌∧?◌, ◌∨?◌, byte, columns, read_nat_of, padded}
use Rattle.text.specs.declared.refusal.Refusal.TheVariants.{Syntax, OutOfRange}
use Rattle.raw_coord.specs.declared.{Compass.Compass, RawCoord.RawCoord}
use Rattle.raw_coord.specs.declared.Compass.TheVariants.{North, South, East, West}

-- N, S, E, W.
unfoldable pub compass_letter : Compass → ℕ
compass_letter North = code "N"
compass_letter South = code "S"
compass_letter East = code "E"
compass_letter West = code "W"

-- x or y by its letter; 1 else.
unfoldable pub sign_of : Compass → Compass → ℕ → Res Compass
sign_of x y l = pick (l =? compass_letter x) (ok x) (pick (l =? compass_letter y) (ok y) (no Syntax))

-- Degrees at most the limit, thousandths of a minute at most 60000; 4 else.
unfoldable pub coord_of : ℕ → ℕ → ℕ → Compass → Res RawCoord
coord_of limit g t sign =
    guard ((g ≤? limit) ∧? (t ≤? 60000)) OutOfRange
    (ok (record { degrees = g; minute_thousandths = t; sign = sign }))

-- The letter of x or of y, and only then the range.
unfoldable pub lettered : ℕ → Compass → Compass → ℕ → ℕ → ℕ → Res RawCoord
lettered limit x y g t l = bind (sign_of x y l) (λ sign. coord_of limit g t sign)

-- d characters of degrees, five of thousandths, a letter.
unfoldable pub read_coord : ℕ → ℕ → Compass → Compass → List ℕ → Res RawCoord
read_coord d limit x y s =
    bind (columns 0 d (read_nat_of 255) s) (λ g.
    bind (columns d (d + 5) (read_nat_of 65535) s) (λ t.
    lettered limit x y g t (byte (d + 5) s)))

-- Degrees at most the limit, thousandths below 60000, the letter of x or of y; 4 else.
unfoldable pub new_coord : ℕ → Compass → Compass → ℕ → ℕ → Compass → Res RawCoord
new_coord limit x y g t sign =
    guard ((g ≤? limit) ∧? (t ≤? 59999)
    ∧? ((compass_letter sign =? compass_letter x) ∨? (compass_letter sign =? compass_letter y))) OutOfRange
    (ok (record { degrees = g; minute_thousandths = t; sign = sign }))

-- Degrees in width d, thousandths in width 5, the letter.
unfoldable pub coord_text : ℕ → RawCoord → List ℕ
coord_text d c = padded d c.degrees ++ (padded 5 c.minute_thousandths ++ (compass_letter c.sign ∷ []))

-- By the book: at the limit no thousandths, and before it fewer than 60000; nothing past it.
unfoldable pub coord_book : ℕ → RawCoord → Bool
coord_book limit c =
    pick (c.degrees =? limit) (c.minute_thousandths =? 0)
    ((c.degrees ≤? limit) ∧? (c.minute_thousandths ≤? 59999))
