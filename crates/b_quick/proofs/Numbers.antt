-- The quick way: fields whose numbers are digits alone are read as their values.
use Rattle.text.specs.Prelude.{ℕ, ◌+◌, ◌-◌, ◌≤◌, ◌<◌, ◌≡◌, Bool, true, false, List, length, Res, ok, bind, moved, guard}
use Rattle.text.specs.Prelude.{◌≤?◌, ◌∧?◌, placed, moved_by, byte, cut, columns}
use Rattle.text.specs.Prelude.{read_nat_of, read_int_of, all_digits_of, value_from}
use Rattle.text.proofs.Prelude.{arith, refl, sym, ap, ◌∙◌, length-drop, length-take, on, found_in, pass, yes=, both}
use Rattle.text.specs.declared.refusal.Refusal.TheVariants.{OutOfRange}
use mir.Syntax.{w16}
use mir.Val.{to_z}
use mir.Facts.{to_z_pos}
use Rattle.text.proofs.Decimal.{value_below}
use Rattle.text.proofs.Reading.{Written, nat_plain, int_plain}
use Rattle.field.specs.Field.{is_ascii_of, sized}
use Rattle.text.proofs.Lines.{cut_length}
use Rattle.field.proofs.Digits.{cut_cut, byte_cut, cut_digits}
use Rattle.field.proofs.Fields.{columns_of_ascii}
use Rattle.three.specs.Three.{read_three_of}
use Rattle.time.specs.Time.{time_of, read_time_of}
use Rattle.time.specs.declared.Time.{Time}
use Rattle.raw_coord.specs.Coord.{lettered, read_coord}
use Rattle.coord.specs.Coord.{latitude, longitude, latitude_in, longitude_in, latitude_by, longitude_by}
use Rattle.raw_coord.specs.declared.{Compass.Compass, RawCoord.RawCoord}
use Rattle.raw_coord.specs.declared.Compass.TheVariants.{North, South, East, West}
use Rattle.coord.specs.declared.{RawLatitude.RawLatitude, RawLongitude.RawLongitude}
use Rattle.position.specs.Position.{read_both, read_position}
use Rattle.b_record.specs.BRecord.{read_heights_of}
use Rattle.b_quick.specs.Quick.{plain_digits}

-- ---- where the digits stand

-- the columns from a up to b, one or more, are digits
pub record Digits (a b : ℕ) (s : List ℕ) : Type 0 where
  pub some : a < b
  pub all : all_digits_of (cut a b s) ≡ true
  pub columns_long : length (cut a b s) ≡ b - a

-- columns of digits have digits in them
digits_in : (a b c d : ℕ) (s : List ℕ) →
    (c < d) × (a + d ≤ b) × (b ≤ length s) → all_digits_of (cut a b s) ≡ true → Digits (a + c) (a + d) s
unfolding cut
digits_in a b c d s i h = record {
  some = omega arith;
  all = cut_digits a b c d s i.1 h;
  columns_long = simp (length-take, length-drop) (omega arith);
}

-- the nine numbers of a fix, each in a block that holds it
pub record Numbers (s : List ℕ) : Type 0 where
  pub hours : Digits 1 3 s
  pub minutes : Digits 3 5 s
  pub seconds : Digits 5 7 s
  pub lat_degrees : Digits 7 9 s
  pub lat_minutes : Digits 9 14 s
  pub lon_degrees : Digits 15 18 s
  pub lon_minutes : Digits 18 23 s
  pub pressure : Digits 25 30 s
  pub gps : Digits 30 35 s

-- a line of plain digits has them
pub plain_numbers : (s : List ℕ) → 35 ≤ length s → plain_digits s ≡ true → Numbers s
unfolding plain_digits
plain_numbers s l h =
    let k = both h in
    let m = both k.1 in
    let n = both m.1 in
    let o = both n.1 in
    record {
      hours = digits_in 1 9 0 2 s (omega arith) k.0;
      minutes = digits_in 1 9 2 4 s (omega arith) k.0;
      seconds = digits_in 1 9 4 6 s (omega arith) k.0;
      lat_degrees = digits_in 1 9 6 8 s (omega arith) k.0;
      lat_minutes = digits_in 6 14 3 8 s (omega arith) m.0;
      lon_degrees = digits_in 15 23 0 3 s (omega arith) n.0;
      lon_minutes = digits_in 15 23 3 8 s (omega arith) n.0;
      pressure = digits_in 25 33 0 5 s (omega arith) o.0;
      gps = digits_in 27 35 3 8 s (omega arith) o.1;
    }

-- they are at most five, as the code asks
pub at_most_five : {a b : ℕ} {s : List ℕ} → Digits a b s → b - a ≤ 5 → (all_digits_of (cut a b s) ≡ true)
    × (length (cut a b s) ≤ 5)
at_most_five d h = (d.all, omega (arith, d.columns_long))

-- ---- numbers of digits alone

-- the value that the code makes of digits
pub digits_written : {a b v : ℕ} {s : List ℕ} → Digits a b s → v ≡ value_from 0 (cut a b s) → Written (cut a b s) v
digits_written d e = record { some = omega (arith, d.some, d.columns_long); digits = d.all; value = e }

-- v is the value of the digits from a up to b, and at most most
pub record Number (a b most : ℕ) (s : List ℕ) (v : ℕ) : Type 0 where
  pub digits : Written (cut a b s) v
  pub fits : v ≤ most

-- a number that passed its test
pub number_within : {a b most v : ℕ} {s : List ℕ} → Written (cut a b s) v → v ≤ most → Number a b most s v
number_within w h = record { digits = w; fits = h }

-- two digits fit into a byte
pub two_digits_fit : {a b v : ℕ} {s : List ℕ} → Digits a b s → v ≡ value_from 0 (cut a b s) → b - a ≤ 2
    → Number a b 255 s v
two_digits_fit {a} {b} {s = s} d e h =
    number_within (digits_written d e)
    (omega (arith, value_below 2 (cut a b s) d.all (omega (arith, d.columns_long))))

-- such a number is read in the columns of a field
nat_in : (a b c d : ℕ) {most v : ℕ} (s : List ℕ) →
    a + d ≤ b → Number (a + c) (a + d) most s v → ok v ≡ columns c d (read_nat_of most) (cut a b s)
unfolding columns
nat_in a b c d s i n = rw (cut_cut a b c d s i) (found_in c (nat_plain n.digits _ n.fits))

-- and so is the height that the code casts it to
int_at : {a b v : ℕ} {s : List ℕ} → Number a b 32767 s v → ok (to_z w16 v) ≡ columns a b (read_int_of 32767) s
unfolding columns
int_at {a} {v} n = rw (to_z_pos w16 {n = v} (omega (arith, n.fits))) (found_in a (int_plain n.digits _ n.fits))

-- ---- fields of such numbers

-- a coordinate from a on, with d characters of degrees
abbrev pub coord_at : ℕ → ℕ → ℕ → Compass → Compass → List ℕ → Res RawCoord
coord_at a d limit x y s = sized (d + 6) (read_coord d limit x y) (cut a (a + (d + 6)) s)

-- is read as its two numbers and its letter
coord_at_lem : (a d limit : ℕ) (x y : Compass) (s : List ℕ) {g t : ℕ} →
    a + (d + 6) ≤ length s → Number (a + 0) (a + d) 255 s g → Number (a + d) (a + (d + 5)) 65535 s t →
    lettered limit x y g t (byte (a + (d + 5)) s) ≡ coord_at a d limit x y s
unfolding sized read_coord
coord_at_lem a d limit x y s l g t =
    pass _ (yes= (cut_length a (d + 6) s l))
    (on _ (nat_in a (a + (d + 6)) 0 d s (omega arith) g)
    (on _ (nat_in a (a + (d + 6)) d (d + 5) s (omega arith) t)
    (rw (byte_cut a (a + (d + 6)) (d + 5) s (omega arith)))))

-- the two coordinates of a line
abbrev pub latitude_of : List ℕ → Res RawLatitude
latitude_of s = latitude (coord_at 7 2 90 North South s)

abbrev pub longitude_of : List ℕ → Res RawLongitude
longitude_of s = longitude (coord_at 15 3 180 East West s)

-- they are its position
pub both_at : (s : List ℕ) →
    read_both (cut 7 24 s)
    ≡ bind (moved 0 (latitude_of s)) (λ lat.
    bind (moved 8 (longitude_of s)) (λ lon. ok (record { lat = lat; lon = lon })))
unfolding read_both columns latitude_in longitude_in
both_at s = rw (cut_cut 7 24 0 8 s (omega arith), cut_cut 7 24 8 17 s (omega arith))

-- a time that is out of range has no place
time_stands : (a h m t : ℕ) → moved a (time_of h m t) ≡ time_of h m t
unfolding time_of moved guard moved_by placed
time_stands a h m t = guarded ((h ≤? 24) ∧? (m ≤? 60) ∧? (t ≤? 60))
  where
    guarded : (b : Bool) → moved {A = Time} a (guard b OutOfRange (ok (record { hours = h; minutes = m; seconds = t })))
        ≡ guard b OutOfRange (ok (record { hours = h; minutes = m; seconds = t }))
    guarded true = refl
    guarded false = refl

module _ (s : List ℕ) (line : (35 ≤ length s) × (is_ascii_of s ≡ true)) where
  -- a time is read as its three numbers
  pub time_at_lem : {h m t : ℕ} →
      Number 1 3 255 s h → Number 3 5 255 s m → Number 5 7 255 s t → time_of h m t ≡ columns 1 7 read_time_of s
  unfolding columns sized read_three_of read_time_of
  time_at_lem {h = hours} {m = minutes} {t = seconds} h m t =
      sym (time_stands 1 hours minutes seconds)
      ∙ ap (moved 1)
      (pass _ (yes= (cut_length 1 6 s (omega arith)))
      (on _ (nat_in 1 7 0 2 s (omega arith) h)
      (on _ (nat_in 1 7 2 4 s (omega arith) m)
      (on _ (nat_in 1 7 4 6 s (omega arith) t) refl))))
      ∙ columns_of_ascii 1 7 6 (read_three_of time_of) s line.1

  -- a coordinate is read as its two numbers and its letter
  pub latitude_at : {g t : ℕ} → Number 7 9 255 s g → Number 9 14 65535 s t → latitude_by g t (byte 14 s) ≡ latitude_of s
  unfolding latitude_by
  latitude_at g t = ap latitude (coord_at_lem 7 2 90 North South s (omega arith) g t)

  pub longitude_at : {g t : ℕ} →
      Number 15 18 255 s g → Number 18 23 65535 s t → longitude_by g t (byte 23 s) ≡ longitude_of s
  unfolding longitude_by
  longitude_at g t = ap longitude (coord_at_lem 15 3 180 East West s (omega arith) g t)

  -- a position is read as its two coordinates
  pub position_at : {lat : RawLatitude} {lon : RawLongitude} →
      ok lat ≡ latitude_of s → ok lon ≡ longitude_of s →
      ok (record { lat = lat; lon = lon }) ≡ columns 7 24 read_position s
  unfolding columns sized read_position
  position_at p q =
      found_in 7
      (pass _ (yes= (cut_length 7 17 s (omega arith)))
      (rw (both_at s) (on _ (found_in 0 p) (on _ (found_in 8 q) refl))))
      ∙ columns_of_ascii 7 24 17 read_both s line.1

-- and the heights as their two numbers
pub heights_at : {p g : ℕ} {s : List ℕ} → Number 25 30 32767 s p → Number 30 35 32767 s g →
    ok (record { pressure = record { 0 = to_z w16 p }; gps = record { 0 = to_z w16 g } }) ≡ read_heights_of s
unfolding read_heights_of
heights_at p g = on _ (int_at p) (on _ (int_at g) refl)
