-- The quick way says None of plain digits: `read_fix` refuses them.
use Rattle.std.specs.Result.{result_ok}
use Rattle.text.specs.Prelude.{None, Option, Some}
use Rattle.text.specs.Prelude.{ℕ, ◌+◌, ◌<◌, ◌≡◌, Bool, true, false, List, Res, ok, no, bind, moved, guard, byte, cut}
use Rattle.text.specs.Prelude.{columns}
use Rattle.text.specs.Prelude.{read_nat_of, read_int_of, read_digits_of}
use Rattle.text.proofs.Prelude.{arith, refl, ap, off, refused_in, pass, stop, second, yes≤, no≤}
use Rattle.text.specs.declared.refusal.Refusal.{Refusal}
use Rattle.text.proofs.Reading.{Written, no_sign}
use Rattle.field.specs.Field.{sized, ascii_in, ascii, field}
use Rattle.field.proofs.Digits.{cut_cut}
use Rattle.time.specs.Time.{read_time_of}
use Rattle.raw_coord.specs.Coord.{read_coord}
use Rattle.coord.specs.Coord.{latitude, longitude}
use Rattle.raw_coord.specs.declared.Compass.{Compass}
use Rattle.raw_coord.specs.declared.Compass.TheVariants.{North, South, East, West}
use Rattle.position.specs.Position.{read_both, read_position}
use Rattle.b_record.specs.BRecord.{valid_of, read_heights_of, read_fix}
use Rattle.b_record.specs.declared.BRecord.{BRecord}
use Rattle.b_quick.specs.Quick.{fix_read}
use Rattle.b_quick.proofs.Numbers.{coord_at, latitude_of, longitude_of, both_at}

-- ---- answers that refuse

-- the answer m is a refusal, whichever
pub record Refuses {A : Type 0} (m : Res A) : Type 0 where
  pub why : Refusal
  pub refused : no why ≡ m

-- a refusal that is known
pub refuses : {A : Type 0} {m : Res A} {n : Refusal} → no n ≡ m → Refuses m
refuses {n} e = record { why = n; refused = e }

-- a reading whose `ok()` is None refuses,
pub none_refuses : {A : Type 0} {o : Option A} {r m : Res A} → o ≡ None → o ≡ result_ok r → r ≡ m → Refuses m
none_refuses {r = ok a} p q e = let z : ◌≡◌ {A = ℕ} 0 1 = cc in let f : ⊥ = omega arith in absurd f
none_refuses {r = no n} p q e = refuses e

-- and one whose `ok()` is Some reads what is in it
pub some_read : {A : Type 0} {a : A} {o : Option A} {r m : Res A} → o ≡ Some a → o ≡ result_ok r → r ≡ m → ok a ≡ m
some_read {r = ok b} p q e = cc
some_read {r = no n} p q e = let z : ◌≡◌ {A = ℕ} 0 1 = cc in let f : ⊥ = omega arith in absurd f

-- of two in a row the first refuses
refuses_first : {A B : Type 0} {m : Res A} (f : A → Res B) → Refuses m → Refuses (bind m f)
refuses_first f r = refuses (off f r.refused)

-- the second refuses whatever the first finds
refuses_later : {A B : Type 0} (m : Res A) {f : A → Res B} → ((a : A) → Refuses (f a)) → Refuses (bind m f)
unfolding bind
refuses_later (ok a) r = r a
refuses_later (no n) r = refuses refl

-- what stands after a test refuses
refuses_guard : {A : Type 0} (t : Bool) (n : Refusal) {r : Res A} → Refuses r → Refuses (guard t n r)
unfolding guard
refuses_guard true n r = r
refuses_guard false n r = refuses refl

-- what is said of a part refuses as the part does
refuses_moved : {A : Type 0} (a : ℕ) {m : Res A} → Refuses m → Refuses (moved a m)
refuses_moved a r = refuses (refused_in a r.refused refl)

-- ---- what the quick way says of a fix's reading

-- the fix that it finds
pub fix_found : {b : BRecord} {m : Res BRecord} → ok b ≡ m → Some b ≡ fix_read m
unfolding fix_read
fix_found e = ap fix_read e

-- None where it refuses
pub fix_refused : {m : Res BRecord} → Refuses m → None ≡ fix_read m
unfolding fix_read
fix_refused r = ap fix_read r.refused

-- ---- digits of a value over the limit are refused

module _ {s : List ℕ} {v most : ℕ} (w : Written s v) (over : most < v) where
  -- as a number
  nat_over : Refuses (read_nat_of most s)
  unfolding read_nat_of read_digits_of
  nat_over =
      refuses (second _ (no_sign w 43 (omega arith))
      (pass _ (yes≤ w.some) (pass _ w.digits (stop _ (no≤ (rw w.value at over))))))

  -- as a signed number
  int_over : Refuses (read_int_of most s)
  unfolding read_int_of
  int_over = refuses (second _ (no_sign w 45 (omega arith)) (off _ nat_over.refused))

-- ---- fields of such digits are refused

-- a coordinate from a on, with d characters of degrees, by either of its numbers
module _ (a d limit : ℕ) (x y : Compass) (s : List ℕ) {v : ℕ} where
  degrees_over : Written (cut (a + 0) (a + d) s) v → 255 < v → Refuses (coord_at a d limit x y s)
  unfolding sized read_coord columns
  degrees_over w h =
      refuses_guard _ _
      (refuses_first _ (refuses_moved 0 (rw (cut_cut a (a + (d + 6)) 0 d s (omega arith)) (nat_over w h))))

  minutes_over : Written (cut (a + d) (a + (d + 5)) s) v → 65535 < v → Refuses (coord_at a d limit x y s)
  unfolding sized read_coord columns
  minutes_over w h =
      refuses_guard _ _ (refuses_later _ (λ _.
      refuses_first _ (refuses_moved d (rw (cut_cut a (a + (d + 6)) d (d + 5) s (omega arith)) (nat_over w h)))))

-- ---- a fix is refused by each of its fields

module _ (s : List ℕ) where
  pub no_time : Refuses (columns 1 7 read_time_of s) → Refuses (read_fix s)
  unfolding read_fix
  no_time r = refuses_first _ r

  no_position : Refuses (read_both (cut 7 24 s)) → Refuses (read_fix s)
  unfolding read_fix columns read_position field sized ascii ascii_in
  no_position r =
      refuses_later _ (λ _. refuses_first _ (refuses_moved 7 (refuses_guard _ _ (refuses_guard _ _ r))))

  pub no_latitude : Refuses (latitude_of s) → Refuses (read_fix s)
  no_latitude r = no_position (rw (both_at s) (refuses_first _ (refuses_moved 0 r)))

  pub no_longitude : Refuses (longitude_of s) → Refuses (read_fix s)
  no_longitude r = no_position (rw (both_at s) (refuses_later _ (λ _. refuses_first _ (refuses_moved 8 r))))

  pub no_letter : Refuses (valid_of (byte 24 s)) → Refuses (read_fix s)
  unfolding read_fix
  no_letter r = refuses_later _ (λ _. refuses_later _ (λ _. refuses_first _ r))

  no_heights : Refuses (read_heights_of s) → Refuses (read_fix s)
  unfolding read_fix
  no_heights r = refuses_later _ (λ _. refuses_later _ (λ _. refuses_later _ (λ _. refuses_first _ r)))

  -- where a number is over its limit
  module _ {v : ℕ} where
    pub lat_minutes_over : Written (cut 9 14 s) v → 65535 < v → Refuses (read_fix s)
    unfolding latitude
    lat_minutes_over w h = no_latitude (refuses_first _ (minutes_over 7 2 90 North South s w h))

    pub lon_degrees_over : Written (cut 15 18 s) v → 255 < v → Refuses (read_fix s)
    unfolding longitude
    lon_degrees_over w h = no_longitude (refuses_first _ (degrees_over 15 3 180 East West s w h))

    pub lon_minutes_over : Written (cut 18 23 s) v → 65535 < v → Refuses (read_fix s)
    unfolding longitude
    lon_minutes_over w h = no_longitude (refuses_first _ (minutes_over 15 3 180 East West s w h))

    pub pressure_over_lem : Written (cut 25 30 s) v → 32767 < v → Refuses (read_fix s)
    unfolding read_heights_of columns
    pressure_over_lem w h = no_heights (refuses_first _ (refuses_moved 25 (int_over w h)))

    pub gps_over_lem : Written (cut 30 35 s) v → 32767 < v → Refuses (read_fix s)
    unfolding read_heights_of columns
    gps_over_lem w h = no_heights (refuses_later _ (λ _. refuses_first _ (refuses_moved 30 (int_over w h))))
