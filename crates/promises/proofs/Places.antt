-- Where a refusal with 3 points.
use Rattle.text.specs.Prelude.{ℕ, zero, suc, ◌+◌, ◌-◌, ◌*◌, ◌≤◌, ◌<◌, ◌≡◌, Bool, true, false, List, length, drop}
use Rattle.text.specs.Prelude.{Res, ok, no, bind, moved, guard, pick, place_of, placed, moved_by, byte, cut}
use Rattle.text.specs.Prelude.{columns, largest, read_nat_of, read_int_of, read_digits_of, None, Some}
use Rattle.text.proofs.Prelude.{arith, refl, sym, ap, ◌∙◌, length-drop, length-take, is=, is≤}
use Rattle.text.specs.declared.{refusal.Refusal.Refusal}
use Rattle.text.specs.declared.refusal.Refusal.TheVariants.{UnreadableNumber, Syntax, NotAscii, OutOfRange}
use Rattle.text.specs.declared.refusal.Refusal.TheVariants.{WrongLength}
use Rattle.text.specs.declared.refusal.Refusal.TheVariants.{BadExtension, MissingExtension, OutsideLine, NoRoom}
use Rattle.text.specs.declared.refusal.Refusal.TheVariants.{NoTable, SpoiledTable, NotDefined}
use Rattle.field.specs.Field.{sized, ascii_in, ascii, field}
use Rattle.field.proofs.Digits.{other_inside}
use Rattle.three.specs.Three.{read_three_of}
use Rattle.time.specs.Time.{time_of, read_time_of}
use Rattle.date.specs.Date.{date_of, read_date}
use Rattle.raw_coord.specs.Coord.{read_coord, lettered, sign_of, coord_of}
use Rattle.coord.specs.Coord.{latitude, longitude, latitude_in, longitude_in, read_latitude, read_longitude}
use Rattle.raw_coord.specs.declared.Compass.{Compass}
use Rattle.raw_coord.specs.declared.Compass.TheVariants.{North, South, East, West}
use Rattle.position.specs.Position.{read_both, read_position}
use Rattle.satellites.specs.Satellites.{read_numbers, read_satellites}
use Rattle.extension.specs.Extension.{read_definition, read_extension}
use Rattle.table.specs.Table.{read_defs, read_body, read_table}
use Rattle.a_record.specs.ARecord.{read_triple, read_a}
use Rattle.b_record.specs.BRecord.{valid_of, read_heights_of, read_fix, read_b}
use Rattle.c_record.specs.CRecord.{read_flight_of, read_task_of, read_declaration}
use Rattle.c_turnpoint_record.specs.CTurnpoint.{read_turnpoint}
use Rattle.d_record.specs.DRecord.{qualifier_of, read_station, read_d}
use Rattle.e_record.specs.ERecord.{read_e}
use Rattle.f_record.specs.FRecord.{read_heard, read_f}
use Rattle.g_record.specs.GRecord.{read_g}
use Rattle.h_record.specs.HRecord.{read_h}
use Rattle.k_record.specs.KRecord.{read_timed, read_k}
use Rattle.l_record.specs.LRecord.{read_l}
use Rattle.records.specs.Record.{Kind, kind_of, read_c, read_kind, read_line_of}
use Rattle.promises.specs.Place.{PointsIn, Points, Placed}

-- ---- one law for each way in which answers are put in a row

-- the answer m points from a on and before b
pub record Aims {A : Type 0} (a b : ℕ) (m : Res A) : Type 0 where
  pub at : PointsIn a b m

-- a reader that points into its own text
abbrev pub Aimed : {A : Type 0} → (List ℕ → Res A) → Type 0
Aimed read = (s : List ℕ) → 1 ≤ length s → length s ≤ largest → Aims 0 (length s) (read s)

pub aimed : {A : Type 0} (read : List ℕ → Res A) → Points read → Aimed read
aimed read p s some fits = record { at = p s some fits }

pub points : {A : Type 0} (read : List ℕ → Res A) → Aimed read → Points read
points read p s some fits = (p s some fits).at

unplaced : {X : Type 0} {n : Refusal} {place : ℕ} → place_of n ≡ None → n ≡ UnreadableNumber place → X
unplaced {place} h e =
    let f : Some place ≡ None = sym (ap place_of e) ∙ h in
    let z : ◌≡◌ {A = ℕ} 0 1 = cc in let x : ⊥ = omega arith in absurd x

module _ {A : Type 0} {a b : ℕ} where
  pub aims_ok : {v : A} → Aims a b (ok v)
  aims_ok = record { at = λ place e. let z : ◌≡◌ {A = ℕ} 0 1 = cc in let x : ⊥ = omega arith in absurd x }

  pub aims_no : {n : Refusal} → place_of n ≡ None → Aims {A = A} a b (no n)
  aims_no {n} h = record { at = λ place e. let same : n ≡ UnreadableNumber place = cc in unplaced h same }

  aims_same : {B : Type 0} {n : Refusal} → Aims {A = B} a b (no n) → Aims {A = A} a b (no n)
  aims_same {B} {n} m =
      record { at = λ place e. let same : n ≡ UnreadableNumber place = cc in m.at place (ap no same) }

  pub aims_bind : {B : Type 0} {m : Res B} {f : B → Res A} → Aims a b m → ((v : B) → Aims a b (f v)) →
      Aims a b (bind m f)
  unfolding bind
  aims_bind {m = ok v} p q = q v
  aims_bind {m = no n} p q = aims_same p

  pub aims_place : {place : ℕ} → a ≤ place → place < b → Aims {A = A} a b (no (UnreadableNumber place))
  aims_place {place} l h = record { at = λ q e. let same : place ≡ q = cc in (omega arith, omega arith) }

  aims_or : (n : Refusal) {t : Bool} {r : Res A} → (t ≡ false → Aims {A = A} a b (no n)) → (t ≡ true → Aims a b r) →
      Aims a b (guard t n r)
  unfolding guard
  aims_or n {t = true} p q = q refl
  aims_or n {t = false} p q = p refl

  pub aims_guard : (n : Refusal) → place_of n ≡ None → {t : Bool} {r : Res A} → (t ≡ true → Aims a b r) →
      Aims a b (guard t n r)
  aims_guard n h p = aims_or n (λ _. aims_no h) p

  pub aims_pick : {t : Bool} {r q : Res A} → (t ≡ true → Aims a b r) → (t ≡ false → Aims a b q) → Aims a b (pick t r q)
  unfolding pick
  aims_pick {t = true} p q = p refl
  aims_pick {t = false} p q = q refl

  pub aims_wider : {c d : ℕ} {m : Res A} → Aims c d m → a ≤ c → d ≤ b → Aims a b m
  aims_wider p l h = record { at = λ place e. let i = p.at place e in (omega arith, omega arith) }

-- ---- numbers

digits_aim : (sign most : ℕ) (s : List ℕ) → 1 ≤ sign + length s → Aims 0 (sign + length s) (read_digits_of sign most s)
unfolding read_digits_of
digits_aim sign most s some =
    aims_or _ (λ _. aims_place (omega arith) (omega arith)) (λ _.
    aims_or _ (λ h. let i = other_inside s h in aims_place (omega arith) (omega arith)) (λ _.
    aims_or _ (λ _. aims_place (omega arith) (omega arith)) (λ _. aims_ok)))

nat_aim : (most : ℕ) (s : List ℕ) → 1 ≤ length s → Aims 0 (length s) (read_nat_of most s)
unfolding read_nat_of
nat_aim most s some =
    aims_pick
    (λ _. aims_wider (digits_aim 1 most (drop 1 s) (omega arith)) (omega arith) (omega (arith, length-drop 1 s)))
    (λ _. aims_wider (digits_aim 0 most s (omega arith)) (omega arith) (omega arith))

int_aim : (most : ℕ) (s : List ℕ) → 1 ≤ length s → Aims 0 (length s) (read_int_of most s)
unfolding read_int_of
int_aim most s some =
    aims_pick
    (λ _. aims_bind
    (aims_wider (digits_aim 1 (most + 1) (drop 1 s) (omega arith)) (omega arith) (omega (arith, length-drop 1 s)))
    (λ _. aims_ok))
    (λ _. aims_bind (nat_aim most s some) (λ _. aims_ok))

pub nat_aims : (most : ℕ) → Aimed (read_nat_of most)
nat_aims most s some fits = nat_aim most s some

pub int_aims : (most : ℕ) → Aimed (read_int_of most)
int_aims most s some fits = int_aim most s some

-- ---- columns

no_aim : {A : Type 0} (a lo hi : ℕ) (n : Refusal) → a + hi ≤ suc largest → Aims {A = A} lo hi (no n) →
    Aims {A = A} (a + lo) (a + hi) (no (moved_by a n))
unfolding moved_by placed
no_aim a lo hi (UnreadableNumber q) h p = let i = p.at q refl in aims_place (omega arith) (omega arith)
no_aim a lo hi Syntax h p = aims_no refl
no_aim a lo hi NotAscii h p = aims_no refl
no_aim a lo hi OutOfRange h p = aims_no refl
no_aim a lo hi BadExtension h p = aims_no refl
no_aim a lo hi MissingExtension h p = aims_no refl
no_aim a lo hi WrongLength h p = aims_no refl
no_aim a lo hi OutsideLine h p = aims_no refl
no_aim a lo hi NoRoom h p = aims_no refl
no_aim a lo hi NoTable h p = aims_no refl
no_aim a lo hi SpoiledTable h p = aims_no refl
no_aim a lo hi NotDefined h p = aims_no refl

moved_aim : {A : Type 0} (a lo hi : ℕ) (m : Res A) → a + hi ≤ suc largest → Aims lo hi m →
    Aims (a + lo) (a + hi) (moved a m)
unfolding moved
moved_aim a lo hi (ok v) h p = aims_ok
moved_aim a lo hi (no n) h p = no_aim a lo hi n h p

cut_long : (a b : ℕ) (s : List ℕ) → a ≤ b → b ≤ length s → length (cut a b s) ≡ b - a
unfolding cut
cut_long a b s l h = simp (length-take, length-drop) (omega arith)

-- a reader that points into its own text points, in columns of a longer one, on these columns
module _ {A : Type 0} (read : List ℕ → Res A) (aims : Aimed read) (a b : ℕ) (s : List ℕ) where
  pub columns_aim : a < b → b ≤ length s → length s ≤ largest → Aims a b (columns a b read s)
  unfolding columns
  columns_aim l h fits =
      let e = cut_long a b s (omega arith) h in
      let p : Aims 0 (b - a) (read (cut a b s)) = rw e at (aims (cut a b s) (omega arith) (omega arith)) in
      aims_wider (moved_aim a 0 (b - a) (read (cut a b s)) (omega arith) p) (omega arith) (omega arith)

  -- in a line that holds them
  pub columns_in : {c d : ℕ} → (a < b) × (b ≤ length s) × (length s ≤ largest) × (c ≤ a) × (b ≤ d) →
      Aims c d (columns a b read s)
  columns_in i = aims_wider (columns_aim i.0 i.1 i.2) i.3 i.4

-- all columns from a on
behind_aim : {A : Type 0} (read : List ℕ → Res A) (a : ℕ) (s : List ℕ) → a ≤ length s → length s ≤ largest →
    (let t = cut a (length s) s in Aims 0 (length t) (read t)) → Aims 0 (length s) (columns a (length s) read s)
unfolding columns
behind_aim read a s l fits p =
    let e = cut_long a (length s) s l (omega arith) in
    aims_wider (moved_aim a 0 (length s - a) _ (omega arith) (rw e at p)) (omega arith) (omega arith)

-- ---- fields

sized_aim : {A : Type 0} {a b : ℕ} (n : ℕ) (read : List ℕ → Res A) (s : List ℕ) → (length s ≡ n → Aims a b (read s)) →
    Aims a b (sized n read s)
unfolding sized
sized_aim n read s p = aims_guard _ refl (λ e. p (is= e))

ascii_aim : {A : Type 0} {a b : ℕ} (t : List ℕ) {r : Res A} → Aims a b r → Aims a b (ascii_in t r)
unfolding ascii_in
ascii_aim t p = aims_guard _ refl (λ _. p)

field_aim : {A : Type 0} {a b : ℕ} (n : ℕ) (read : List ℕ → Res A) (s : List ℕ) → (length s ≡ n → Aims a b (read s)) →
    Aims a b (field n read s)
unfolding field ascii
field_aim n read s p = sized_aim n (ascii read) s (λ e. ascii_aim s (p e))

-- three numbers, and what is made of them
three_aim : {A : Type 0} (make : ℕ → ℕ → ℕ → Res A) → ((a b c : ℕ) → Aims 0 6 (make a b c)) → (s : List ℕ) →
    length s ≡ 6 → Aims 0 6 (read_three_of make s)
unfolding read_three_of
three_aim make makes s l =
    aims_bind (columns_in _ (nat_aims 255) 0 2 s (omega arith))
    (λ a. aims_bind
    (columns_in _ (nat_aims 255) 2 4 s (omega arith))
    (λ b. aims_bind
    (columns_in _ (nat_aims 255) 4 6 s (omega arith))
    (λ c. makes a b c)))

of_three : {A : Type 0} (make : ℕ → ℕ → ℕ → Res A) → ((a b c : ℕ) → Aims 0 6 (make a b c)) →
    Aimed (field 6 (read_three_of make))
of_three make makes s some fits =
    field_aim 6 (read_three_of make) s (λ l. aims_wider (three_aim make makes s l) (omega arith) (omega arith))

pub time_aims : Aimed read_time_of
unfolding read_time_of time_of
time_aims = of_three time_of (λ a b c. aims_guard _ refl (λ _. aims_ok))

pub date_aims : Aimed read_date
unfolding read_date date_of
date_aims = of_three date_of (λ a b c. aims_guard _ refl (λ _. aims_ok))

-- a coordinate with d characters of degrees
coord_aim : (d limit : ℕ) (x y : Compass) (s : List ℕ) → 1 ≤ d → d ≤ 3 → length s ≡ d + 6 →
    Aims 0 (d + 6) (read_coord d limit x y s)
unfolding read_coord lettered sign_of coord_of
coord_aim d limit x y s some few l =
    aims_bind (columns_in _ (nat_aims 255) 0 d s (omega arith))
    (λ g. aims_bind
    (columns_in _ (nat_aims 65535) d (d + 5) s (omega arith))
    (λ t. aims_bind (aims_pick (λ _. aims_ok) (λ _. aims_pick (λ _. aims_ok) (λ _. aims_no refl)))
    (λ sign. aims_guard _ refl (λ _. aims_ok))))

-- in a text that is known to be ASCII, and as a field
module _ (d limit : ℕ) (x y : Compass) (some : 1 ≤ d) (few : d ≤ 3) where
  coord_in : Aimed (sized (d + 6) (read_coord d limit x y))
  coord_in s _ fits =
      sized_aim (d + 6) (read_coord d limit x y) s (λ l.
      aims_wider (coord_aim d limit x y s some few l) (omega arith) (omega arith))

  coord_of_lem : Aimed (field (d + 6) (read_coord d limit x y))
  coord_of_lem s _ fits =
      field_aim (d + 6) (read_coord d limit x y) s (λ l.
      aims_wider (coord_aim d limit x y s some few l) (omega arith) (omega arith))

latitude_in_lem : Aimed latitude_in
unfolding latitude_in latitude
latitude_in_lem s some fits =
    aims_bind (coord_in 2 90 North South (omega arith) (omega arith) s some fits) (λ _. aims_ok)

longitude_in_lem : Aimed longitude_in
unfolding longitude_in longitude
longitude_in_lem s some fits =
    aims_bind (coord_in 3 180 East West (omega arith) (omega arith) s some fits) (λ _. aims_ok)

pub latitude_aims : Aimed read_latitude
unfolding read_latitude latitude
latitude_aims s some fits =
    aims_bind (coord_of_lem 2 90 North South (omega arith) (omega arith) s some fits) (λ _. aims_ok)

pub longitude_aims : Aimed read_longitude
unfolding read_longitude longitude
longitude_aims s some fits =
    aims_bind (coord_of_lem 3 180 East West (omega arith) (omega arith) s some fits) (λ _. aims_ok)

pub position_aims : Aimed read_position
unfolding read_position read_both
position_aims s some fits =
    field_aim 17 read_both s (λ l.
    aims_bind (columns_in _ latitude_in_lem 0 8 s (omega arith)) (λ _.
    aims_bind (columns_in _ longitude_in_lem 8 17 s (omega arith))
    (λ _. aims_ok)))

-- a list of satellites, an empty one too
satellites_aim : (s : List ℕ) → Aims 0 (length s) (read_satellites s)
unfolding read_satellites read_numbers
satellites_aim s =
    aims_bind
    (aims_guard _ refl (λ _. aims_or _ (λ other. aims_place (omega arith) (other_inside s other)) (λ _. aims_ok)))
    (λ _. aims_ok)

pub definition_aims : Aimed read_extension
unfolding read_extension read_definition
definition_aims s some fits =
    aims_guard _ refl (λ e. let l : length s ≡ 7 = is= e in
    aims_bind (columns_in _ (nat_aims 255) 0 2 s (omega arith))
    (λ _. aims_bind
    (columns_in _ (nat_aims 255) 2 4 s (omega arith))
    (λ _. aims_guard _ refl (λ _. aims_ok))))

-- ---- lines

-- A, D, G, H and L lines have no number, so no refusal of them points
a_aims : Aimed read_a
unfolding read_a read_triple
a_aims s some fits =
    aims_guard _ refl (λ _. aims_guard _ refl (λ _.
    aims_pick (λ _. aims_guard _ refl (λ _. aims_ok))
    (λ _. aims_pick (λ _. ascii_aim (cut 0 4 s) aims_ok) (λ _. ascii_aim (cut 0 7 s) aims_ok))))

h_aims : Aimed read_h
unfolding read_h
h_aims s some fits = aims_guard _ refl (λ _. aims_guard _ refl (λ _. ascii_aim (cut 0 5 s) aims_ok))

d_aims : Aimed read_d
unfolding read_d ascii read_station qualifier_of
d_aims s some fits =
    aims_guard _ refl (λ _. aims_guard _ refl (λ _.
    ascii_aim s
    (aims_bind (aims_pick (λ _. aims_ok) (λ _. aims_pick (λ _. aims_ok) (λ _. aims_no refl))) (λ _. aims_ok))))

g_aims : Aimed read_g
unfolding read_g
g_aims s some fits = aims_guard _ refl (λ _. aims_ok)

l_aims : Aimed read_l
unfolding read_l
l_aims s some fits = aims_guard _ refl (λ _. aims_guard _ refl (λ _. ascii_aim (cut 0 4 s) aims_ok))

e_aims : Aimed read_e
unfolding read_e
e_aims s some fits =
    aims_guard _ refl (λ e. let l : 10 ≤ length s = is≤ e in
    aims_guard _ refl (λ _.
    ascii_aim (cut 0 10 s) (aims_bind (columns_in _ time_aims 1 7 s (omega arith)) (λ _. aims_ok))))

f_aims : Aimed read_f
unfolding read_f ascii read_heard
f_aims s some fits =
    aims_guard _ refl (λ e. let l : 7 ≤ length s = is≤ e in
    aims_guard _ refl (λ _.
    ascii_aim s
    (aims_bind (columns_in _ time_aims 1 7 s (omega arith)) (λ _.
    aims_bind (behind_aim read_satellites 7 s l fits (satellites_aim (cut 7 (length s) s))) (λ _. aims_ok)))))

heights_aim : (s : List ℕ) → 35 ≤ length s → length s ≤ largest → Aims 0 (length s) (read_heights_of s)
unfolding read_heights_of
heights_aim s l fits =
    aims_bind (columns_in _ (int_aims 32767) 25 30 s (omega arith)) (λ _.
    aims_bind (columns_in _ (int_aims 32767) 30 35 s (omega arith)) (λ _. aims_ok))

b_aims : Aimed read_b
unfolding read_b ascii read_fix valid_of
b_aims s some fits =
    aims_guard _ refl (λ e. let l : 35 ≤ length s = is≤ e in
    ascii_aim s
    (aims_bind (columns_in _ time_aims 1 7 s (omega arith)) (λ _.
    aims_bind (columns_in _ position_aims 7 24 s (omega arith)) (λ _.
    aims_bind (aims_pick (λ _. aims_ok) (λ _. aims_pick (λ _. aims_ok) (λ _. aims_no refl))) (λ _.
    aims_bind (heights_aim s l fits) (λ _. aims_ok))))))

k_aims : Aimed read_k
unfolding read_k ascii read_timed
k_aims s some fits =
    aims_guard _ refl (λ e. let l : 7 ≤ length s = is≤ e in
    aims_guard _ refl (λ _.
    ascii_aim s (aims_bind (columns_in _ time_aims 1 7 s (omega arith)) (λ _. aims_ok))))

turnpoint_aims : Aimed read_turnpoint
unfolding read_turnpoint
turnpoint_aims s some fits =
    aims_guard _ refl (λ e. let l : 18 ≤ length s = is≤ e in
    aims_guard _ refl (λ _.
    ascii_aim (cut 0 18 s)
    (aims_bind (columns_in _ position_aims 1 18 s (omega arith)) (λ _. aims_ok))))

flight_aims : Aimed read_flight_of
unfolding read_flight_of
flight_aims s some fits = aims_pick (λ _. aims_ok) (λ _. aims_bind (date_aims s some fits) (λ _. aims_ok))

task_aim : (s : List ℕ) → 25 ≤ length s → length s ≤ largest → Aims 0 (length s) (read_task_of s)
unfolding read_task_of
task_aim s l fits =
    aims_bind (columns_in _ (nat_aims 65535) 19 23 s (omega arith)) (λ _.
    aims_bind (columns_in _ (int_aims 127) 23 25 s (omega arith)) (λ _. aims_ok))

declaration_aims : Aimed read_declaration
unfolding read_declaration
declaration_aims s some fits =
    aims_guard _ refl (λ e. let l : 25 ≤ length s = is≤ e in
    aims_guard _ refl (λ _.
    ascii_aim (cut 0 25 s)
    (aims_bind (columns_in _ date_aims 1 7 s (omega arith)) (λ _.
    aims_bind (columns_in _ time_aims 7 13 s (omega arith)) (λ _.
    aims_bind (columns_in _ flight_aims 13 19 s (omega arith)) (λ _.
    aims_bind (task_aim s l fits) (λ _. aims_ok)))))))

-- definitions in turn
defs_aim : (k : ℕ) (s : List ℕ) → length s ≡ 7 * k → length s ≤ largest → Aims 0 (length s) (read_defs k s)
unfolding read_defs
defs_aim zero s l fits = aims_ok
defs_aim (suc k) s l fits =
    let e = cut_long 7 (length s) s (omega arith) (omega arith) in
    let rest = defs_aim k (cut 7 (length s) s) (omega arith) (omega arith) in
    aims_bind (columns_in _ definition_aims 0 7 s (omega arith)) (λ _.
    aims_bind (behind_aim (read_defs k) 7 s (omega arith) fits rest) (λ _. aims_ok))

table_aims : Aimed read_table
unfolding read_table ascii read_body
table_aims s some fits =
    aims_guard _ refl (λ e. let l : 3 ≤ length s = is≤ e in
    aims_guard _ refl (λ _.
    ascii_aim s
    (aims_bind (columns_in _ (nat_aims 255) 1 3 s (omega arith)) (λ count.
    aims_guard _ refl (λ t.
    let w : length s ≡ 3 + 7 * count = is= t in
    let e = cut_long 3 (length s) s (omega arith) (omega arith) in
    behind_aim (read_defs count) 3 s (omega arith) fits
    (defs_aim count (cut 3 (length s) s) (omega arith) (omega arith)))))))

kind_aims : (k : Kind) → Aimed (read_kind k)
unfolding read_kind read_c
kind_aims Kind.A s some fits = aims_bind (a_aims s some fits) (λ _. aims_ok)
kind_aims Kind.B s some fits = aims_bind (b_aims s some fits) (λ _. aims_ok)
kind_aims Kind.C s some fits =
    aims_guard _ refl (λ _.
    aims_pick (λ _. aims_bind (turnpoint_aims s some fits) (λ _. aims_ok))
    (λ _. aims_bind (declaration_aims s some fits) (λ _. aims_ok)))
kind_aims Kind.D s some fits = aims_bind (d_aims s some fits) (λ _. aims_ok)
kind_aims Kind.E s some fits = aims_bind (e_aims s some fits) (λ _. aims_ok)
kind_aims Kind.F s some fits = aims_bind (f_aims s some fits) (λ _. aims_ok)
kind_aims Kind.G s some fits = aims_bind (g_aims s some fits) (λ _. aims_ok)
kind_aims Kind.H s some fits = aims_bind (h_aims s some fits) (λ _. aims_ok)
kind_aims Kind.I s some fits = aims_bind (table_aims s some fits) (λ _. aims_ok)
kind_aims Kind.J s some fits = aims_bind (table_aims s some fits) (λ _. aims_ok)
kind_aims Kind.K s some fits = aims_bind (k_aims s some fits) (λ _. aims_ok)
kind_aims Kind.L s some fits = aims_bind (l_aims s some fits) (λ _. aims_ok)
kind_aims Kind.Other s some fits = aims_ok

pub line_aims : Aimed read_line_of
unfolding read_line_of
line_aims s some fits = aims_guard _ refl (λ _. kind_aims (kind_of (byte 0 s)) s some fits)

-- ---- all of it

pub points_on_its_columns : Placed
points_on_its_columns = record {
  on_columns = λ read p a b s l h fits. (columns_aim read (aimed read p) a b s l h fits).at;
  nat = λ most. points _ (nat_aims most);
  int = λ most. points _ (int_aims most);
  time = points _ time_aims;
  date = points _ date_aims;
  latitude = points _ latitude_aims;
  longitude = points _ longitude_aims;
  position = points _ position_aims;
  satellites = points _ (λ s _ _. satellites_aim s);
  definition = points _ definition_aims;
  line = points _ line_aims;
}
