-- Finer positions: some recorders add digits to the minutes of a fix, by the extensions LAD and LOD.
use Rattle.std.specs.Prelude.{Option, None, Result, ◌+◌, ◌*◌, ◌^◌, ◌≤◌, ◌≡◌}
use Rattle.text.specs.Prelude.{ℕ, code, Bool, true, false, List, length, ℤ, pos, Res, ok, no}
use Rattle.text.specs.Prelude.{moved, guard, pick, number_of, place_of, ◌≤?◌, ◌=?◌, ◌∨?◌}
use Rattle.text.specs.Prelude.{all_digits_of, first_other_of, value_from}
use Rattle.std.specs.Prelude.{neg_ℤ}
use Rattle.text.specs.declared.refusal.Refusal.TheVariants.{UnreadableNumber}
use Rattle.part.specs.Part.{bytes_of}
use Rattle.part.specs.declared.Part.{Part}
use Rattle.field.specs.declared.Mnemonic.{Mnemonic}
use Rattle.raw_coord.specs.declared.{Compass.Compass, RawCoord.RawCoord}
use Rattle.raw_coord.specs.declared.Compass.TheVariants.{North, South, East, West}
use Rattle.b_record.specs.declared.BRecord.{BRecord}
use Rattle.held.specs.Held.{look_up}
use Rattle.held.specs.declared.tables.Tables.{Tables}
use Rattle.finer.specs.declared.{FinerCoord.FinerCoord, FinerPosition.FinerPosition, FinerRefusal.FinerRefusal}

-- The digits that a recorder adds to the minutes of a latitude.
unfoldable pub LAD : Mnemonic
LAD = record { 0 = code "L"; 1 = code "A"; 2 = code "D" }

-- Those of a longitude.
unfoldable pub LOD : Mnemonic
LOD = record { 0 = code "L"; 1 = code "O"; 2 = code "D" }

-- ---- one coordinate

-- Thousandths of a minute from the equator, or from Greenwich.
unfoldable pub thousandths : RawCoord → ℕ
thousandths c = c.degrees * 60000 + c.minute_thousandths

-- S and W are negative.
unfoldable pub is_negative_of : Compass → Bool
is_negative_of North = false
is_negative_of South = true
is_negative_of East = false
is_negative_of West = true

-- So many parts of a minute in a direction.
unfoldable pub toward : Compass → ℕ → ℤ
toward sign m = pick (is_negative_of sign) (neg_ℤ (pos m)) (pos m)

-- Plain thousandths, with n = 0.
unfoldable pub plainly : RawCoord → FinerCoord
plainly c = record { value = toward c.sign (thousandths c); n = 0 }

-- With n digits more, of the value d: a whole number of 10 ^ -(3 + n) minutes.
unfoldable pub finely : ℕ → ℕ → RawCoord → FinerCoord
finely n d c = record { value = toward c.sign (thousandths c * 10 ^ n + d); n = n }

-- Every byte must be a digit, and a sign is none: their value, or 3 at the first byte that is not.
unfoldable pub read_plain_of : List ℕ → Res ℕ
read_plain_of s = guard (all_digits_of s) (UnreadableNumber (first_other_of s)) (ok (value_from 0 s))

-- What the second answers of the value that is found or read; a refusal stands.
unfoldable pub after : {A : Type 0} → Res A → (A → Result FinerCoord FinerRefusal) → Result FinerCoord FinerRefusal
after (ok a) f = f a
after (no n) f = no (FinerRefusal.Read n)

-- The answer r where the test holds, and 20 where it does not.
unfoldable pub narrow : Bool → Result FinerCoord FinerRefusal → Result FinerCoord FinerRefusal
narrow true r = r
narrow false r = no FinerRefusal.TooWide

-- A coordinate with the digits that lookup found: its own refusal; 20 for a width over 5; 3 for a byte that is not a
-- digit, the place counted from the line's start.
unfoldable pub read_finer : Res Part → RawCoord → List ℕ → Result FinerCoord FinerRefusal
read_finer found c s =
    after found (λ p.
    narrow (p.len ≤? 5)
    (after (moved p.start (read_plain_of (bytes_of p s))) (λ d.
    ok (finely p.len d c))))

-- ---- a position

-- Latitude and longitude, types apart; the refusal of the latitude comes first.
unfoldable pub both : Result FinerCoord FinerRefusal → Result FinerCoord FinerRefusal →
    Result FinerPosition FinerRefusal
both (no n) lon = no n
both (ok lat) (no n) = no n
both (ok lat) (ok lon) =
    ok (record { lat = record { 0 = lat }; lon = record { 0 = lon } })

-- Lookup gives 15.
unfoldable pub is_undefined_of : Res Part → Bool
is_undefined_of (ok p) = false
is_undefined_of (no n) = number_of n =? 15

-- A position with what lookup gives for LAD and for LOD: where it is 15 for either, plain thousandths of both, before
-- any other test.
unfoldable pub position_by_of : Res Part → Res Part → RawCoord → RawCoord → List ℕ → Result FinerPosition FinerRefusal
position_by_of lad lod lat lon s =
    pick (is_undefined_of lad ∨? is_undefined_of lod)
    (both (ok (plainly lat)) (ok (plainly lon)))
    (both (read_finer lad lat s) (read_finer lod lon s))

-- The finer position of a fix beside its line, at which t is in force: LAD and LOD are looked up in the table of I
-- lines, behind the 35 columns that every B line has.
unfoldable pub finer_position : BRecord → Tables → List ℕ → Result FinerPosition FinerRefusal
finer_position fix t s =
    position_by_of (look_up 35 fix.rest t.i LAD s) (look_up 35 fix.rest t.i LOD s)
    fix.pos.lat.0 fix.pos.lon.0 s

-- ---- refusals

-- 20 for a width over 5; the others have the papers' numbers.
abbrev pub finer_number : FinerRefusal → ℕ
finer_number (FinerRefusal.Read n) = number_of n
finer_number FinerRefusal.TooWide = 20

-- The place that 3 carries; no other has one.
abbrev pub finer_place : FinerRefusal → Option ℕ
finer_place (FinerRefusal.Read n) = place_of n
finer_place FinerRefusal.TooWide = None

-- ---- what the code says by the way

-- What is found lies inside the line.
abbrev pub Lies : Res Part → List ℕ → Type 0
Lies found s = (p : Part) → found ≡ ok p → p.start + p.len ≤ length s
