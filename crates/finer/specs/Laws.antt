-- What holds of finer positions, over any number of digits.
use Rattle.std.specs.Prelude.{◌+◌, ◌*◌, ◌/◌, ◌^◌, ◌≤◌, ◌<◌, ◌≡◌}
use Rattle.text.specs.Prelude.{ℕ, suc, false, List, length, ℤ, pos, negsuc, Res, ok}
use Rattle.text.specs.Prelude.{no, byte, largest, is_digit_of}
use Rattle.std.specs.Prelude.{neg_ℤ, nat_abs}
use Rattle.text.specs.declared.refusal.Refusal.{Refusal}
use Rattle.text.specs.declared.refusal.Refusal.TheVariants.{UnreadableNumber}
use Rattle.part.specs.declared.Part.{Part}
use Rattle.raw_coord.specs.declared.RawCoord.{RawCoord}
use Rattle.b_record.specs.declared.BRecord.{BRecord}
use Rattle.held.specs.Held.{look_up}
use Rattle.held.specs.declared.tables.Tables.{Tables}
use Rattle.finer.specs.Finer.{LAD, LOD, thousandths, toward, plainly, finely, read_finer, is_undefined_of}
use Rattle.finer.specs.Finer.{finer_position}
use Rattle.finer.specs.declared.{FinerCoord.FinerCoord, FinerRefusal.FinerRefusal}
use Rattle.finer.specs.declared.{FinerPosition.FinerPosition}

-- ---- digits dropped

-- A number without its last n decimal digits; the sign stays.
unfoldable pub dropped : ℕ → ℤ → ℤ
dropped n (pos m) = pos (m / 10 ^ n)
dropped n (negsuc m) = neg_ℤ (pos (suc m / 10 ^ n))

-- ---- degrees, exactly

-- So many parts, of which `of` make one.
pub record Fraction : Type 0 where
  pub parts : ℕ
  pub of : ℕ

-- Their sum.
infixr 6 ◌⊕◌
unfoldable pub ◌⊕◌ : Fraction → Fraction → Fraction
a ⊕ b = record { parts = a.parts * b.of + b.parts * a.of; of = a.of * b.of }

-- They are equal, and neither is made of no parts.
pub record Equal (a b : Fraction) : Type 0 where
  pub cross : a.parts * b.of ≡ b.parts * a.of
  pub some : (1 ≤ a.of) × (1 ≤ b.of)

-- A coordinate in degrees, from the equator or from Greenwich: its degrees, its thousandths of a minute, and d of
-- 10 ^ -(3 + n) minutes; 60 minutes make a degree.
unfoldable pub in_degrees : ℕ → ℕ → RawCoord → Fraction
in_degrees n d c =
    record { parts = c.degrees; of = 1 }
    ⊕ record { parts = c.minute_thousandths; of = 60 * 10 ^ 3 }
    ⊕ record { parts = d; of = 60 * 10 ^ (3 + n) }

-- ---- why there is no position

-- Why a coordinate is refused with r, where lookup answers m for its name, in the order of the checks.
pub data Why (m : Res Part) (s : List ℕ) (r : FinerRefusal) : Type 0 where
  as_lookup : (n : Refusal) → m ≡ no n → r ≡ FinerRefusal.Read n → Why m s r
  over_five : (p : Part) → m ≡ ok p → 5 < p.len → r ≡ FinerRefusal.TooWide → Why m s r
  no_digit : (p : Part) (k : ℕ) → m ≡ ok p → p.len ≤ 5 → k < p.len → p.start + k < length s →
      is_digit_of (byte (p.start + k) s) ≡ false → r ≡ FinerRefusal.Read (UnreadableNumber (p.start + k)) → Why m s r

-- Why a position is: for its latitude, or where that is given for its longitude; and 15 for neither name.
pub data WhyNone (lad lod : Res Part) (lat : RawCoord) (s : List ℕ) (r : FinerRefusal) : Type 0 where
  latitude : is_undefined_of lad ≡ false → is_undefined_of lod ≡ false → Why lad s r → WhyNone lad lod lat s r
  longitude : is_undefined_of lad ≡ false → is_undefined_of lod ≡ false →
      (f : FinerCoord) → read_finer lad lat s ≡ ok f → Why lod s r → WhyNone lad lod lat s r

-- ---- the laws

-- What is given of the coordinate c: it has n digits more, at most 5.
pub record Given (c : RawCoord) (f : FinerCoord) : Type 0 where
  pub digits : ℕ
  pub few : f.n ≤ 5
  pub below : digits < 10 ^ f.n
  pub is : f ≡ finely f.n digits c
  -- Without them it is the plain one.
  pub drops : dropped f.n f.value ≡ (plainly c).value

pub record Laws : Type 0 where
  -- No number comes near the end of 64 bits, whatever the coordinate: one built by hand has at most 255 degrees and
  -- 65,535 thousandths.
  pub fits : (c : RawCoord) (n d : ℕ) → c.degrees ≤ 255 → c.minute_thousandths ≤ 65535 → n ≤ 5 → d < 10 ^ n →
      thousandths c * 10 ^ n + d < 10 ^ 13
  -- With n = 0 it is the coordinate's own thousandths.
  pub plain : (c : RawCoord) → finely 0 0 c ≡ plainly c
  -- Dropping n digits gives the plain one, for either sign.
  pub drops : (c : RawCoord) (n d : ℕ) → d < 10 ^ n → dropped n (finely n d c).value ≡ (plainly c).value
  -- The number divided by 60000 * 10 ^ n is the coordinate in degrees, exactly, in the coordinate's direction.
  pub exact : (c : RawCoord) (n d : ℕ) →
      Equal (record { parts = nat_abs (finely n d c).value; of = 60000 * 10 ^ n }) (in_degrees n d c)
  pub directed : (c : RawCoord) (n d : ℕ) → (finely n d c).value ≡ toward c.sign (nat_abs (finely n d c).value)
  -- So of every position that is given.
  pub given : (fix : BRecord) (t : Tables) (s : List ℕ) (p : FinerPosition) →
      finer_position fix t s ≡ ok p →
      Given fix.pos.lat.0 p.lat.0 × Given fix.pos.lon.0 p.lon.0
  -- Where lookup gives 15 for neither name each has a digit at least.
  pub some : (fix : BRecord) (t : Tables) (s : List ℕ) (p : FinerPosition) →
      is_undefined_of (look_up 35 fix.rest t.i LAD s) ≡ false →
      is_undefined_of (look_up 35 fix.rest t.i LOD s) ≡ false →
      finer_position fix t s ≡ ok p →
      (1 ≤ p.lat.0.n) × (1 ≤ p.lon.0.n)
  -- A position is refused in these cases alone. (No line is longer than 64 bits count.)
  pub refused : (fix : BRecord) (t : Tables) (s : List ℕ) (r : FinerRefusal) → length s ≤ largest →
      finer_position fix t s ≡ no r →
      WhyNone (look_up 35 fix.rest t.i LAD s) (look_up 35 fix.rest t.i LOD s) fix.pos.lat.0 s r
