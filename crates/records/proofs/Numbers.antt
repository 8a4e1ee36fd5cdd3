-- The answer to a line has a number of at most 12: 13 to 15 are lookups'.
use Rattle.text.specs.Prelude.{ℕ, zero, suc, ◌≤◌, ◌≡◌, Bool, true, false, List, Res, ok, no, bind, moved, guard, pick}
use Rattle.text.specs.Prelude.{number_of, placed, moved_by, ◌≤?◌, columns, read_nat_of, read_int_of, read_digits_of}
use Rattle.text.proofs.Prelude.{arith, refl, is≤}
use Rattle.text.specs.declared.refusal.Refusal.{Refusal}
use Rattle.field.specs.Field.{sized, ascii_in, ascii, field}
use Rattle.three.specs.Three.{read_three_of}
use Rattle.time.specs.Time.{time_of, read_time_of}
use Rattle.date.specs.Date.{date_of, read_date}
use Rattle.raw_coord.specs.Coord.{read_coord, lettered, sign_of, coord_of}
use Rattle.coord.specs.Coord.{latitude, longitude, latitude_in, longitude_in}
use Rattle.position.specs.Position.{read_both, read_position}
use Rattle.extension.specs.Extension.{read_definition, read_extension}
use Rattle.table.specs.Table.{read_defs, read_body, read_table}
use Rattle.a_record.specs.ARecord.{read_triple, read_a}
use Rattle.b_record.specs.BRecord.{valid_of, read_heights_of, read_fix, read_b}
use Rattle.c_record.specs.CRecord.{read_flight_of, read_task_of, read_declaration}
use Rattle.c_turnpoint_record.specs.CTurnpoint.{read_turnpoint}
use Rattle.satellites.specs.Satellites.{read_numbers, read_satellites}
use Rattle.d_record.specs.DRecord.{qualifier_of, read_station, read_d}
use Rattle.e_record.specs.ERecord.{read_e}
use Rattle.f_record.specs.FRecord.{read_heard, read_f}
use Rattle.g_record.specs.GRecord.{read_g}
use Rattle.h_record.specs.HRecord.{read_h}
use Rattle.k_record.specs.KRecord.{read_timed, read_k}
use Rattle.l_record.specs.LRecord.{read_l}
use Rattle.records.specs.Record.{Kind, read_c, read_kind, read_line_of, accepted_as, answered}
use Rattle.records.specs.declared.Record.{Record}

-- ---- one law for each way in which answers are put in a row

-- where m refuses, it does so with a number of at most 12
record Small {A : Type 0} (m : Res A) : Type 0 where
  small : (n : Refusal) → m ≡ no n → (number_of n ≤? 12) ≡ true

-- a refusal keeps its number where its place is shifted
moved_number : (a : ℕ) (n : Refusal) → number_of (moved_by a n) ≡ number_of n
unfolding moved_by placed
moved_number a (Refusal.UnreadableNumber p) = refl
moved_number a Refusal.Syntax = refl
moved_number a Refusal.NotAscii = refl
moved_number a Refusal.OutOfRange = refl
moved_number a Refusal.BadExtension = refl
moved_number a Refusal.MissingExtension = refl
moved_number a Refusal.WrongLength = refl
moved_number a Refusal.OutsideLine = refl
moved_number a Refusal.NoRoom = refl
moved_number a Refusal.NoTable = refl
moved_number a Refusal.SpoiledTable = refl
moved_number a Refusal.NotDefined = refl

module _ {A : Type 0} where
  small_ok : {v : A} → Small (ok v)
  small_ok = record { small = λ n e. let z : ◌≡◌ {A = ℕ} 0 1 = cc in absurd (omega arith) }

  small_no : {n : Refusal} → (number_of n ≤? 12) ≡ true → Small {A = A} (no n)
  small_no {n} h = record { small = λ k e. let same : n ≡ k = cc in rw same at h }

  small_guard : (t : Bool) (n : Refusal) {r : Res A} → (number_of n ≤? 12) ≡ true → Small r → Small (guard t n r)
  unfolding guard
  small_guard true n h p = p
  small_guard false n h p = small_no h

  small_pick : (t : Bool) {r q : Res A} → Small r → Small q → Small (pick t r q)
  unfolding pick
  small_pick true p q = p
  small_pick false p q = q

  small_bind : {B : Type 0} (m : Res B) {f : B → Res A} → Small m → ((v : B) → Small (f v)) → Small (bind m f)
  unfolding bind
  small_bind (ok v) p q = q v
  small_bind (no n) p q = small_no (p.small n refl)

  small_moved : (a : ℕ) {m : Res A} → Small m → Small (moved a m)
  unfolding moved
  small_moved a {m = ok v} p = p
  small_moved a {m = no n} p = small_no (rw (moved_number a n) (p.small n refl))

ruleset smalls = (small_ok, small_no, small_guard, small_pick, small_bind, small_moved)

-- ---- numbers, fields, lines

nat_small : (most : ℕ) (s : List ℕ) → Small (read_nat_of most s)
unfolding read_nat_of read_digits_of ◌≤?◌
nat_small most s = search smalls

int_small : (most : ℕ) (s : List ℕ) → Small (read_int_of most s)
unfolding read_int_of read_digits_of ◌≤?◌
int_small most s = search (smalls, nat_small) depth 10

time_small : (s : List ℕ) → Small (read_time_of s)
unfolding read_time_of field sized ascii ascii_in read_three_of columns time_of ◌≤?◌
time_small s = search (smalls, nat_small) depth 20

date_small : (s : List ℕ) → Small (read_date s)
unfolding read_date field sized ascii ascii_in read_three_of columns date_of ◌≤?◌
date_small s = search (smalls, nat_small) depth 20

position_small : (s : List ℕ) → Small (read_position s)
unfolding read_position field sized ascii ascii_in read_both columns latitude_in longitude_in latitude longitude read_coord
    lettered sign_of coord_of ◌≤?◌
position_small s = search (smalls, nat_small) depth 20

defs_small : (k : ℕ) (s : List ℕ) → Small (read_defs k s)
unfolding read_defs columns read_extension read_definition ◌≤?◌
defs_small zero s = small_ok
defs_small (suc k) s = search (smalls, nat_small, defs_small k) depth 20

kind_small : (k : Kind) (s : List ℕ) → Small (read_kind k s)
unfolding read_kind read_c columns ascii ascii_in read_a read_triple read_b read_fix valid_of read_heights_of read_turnpoint
    read_declaration read_flight_of read_task_of read_d read_station qualifier_of read_e read_f read_heard read_satellites read_numbers
    read_g read_h read_table read_body read_k read_timed read_l ◌≤?◌
kind_small Kind.A s = search smalls depth 20
kind_small Kind.B s = search (smalls, int_small, time_small, position_small) depth 20
kind_small Kind.C s = search (smalls, nat_small, int_small, time_small, date_small, position_small) depth 20
kind_small Kind.D s = search smalls depth 20
kind_small Kind.E s = search (smalls, time_small) depth 20
kind_small Kind.F s = search (smalls, time_small) depth 20
kind_small Kind.G s = search smalls depth 20
kind_small Kind.H s = search smalls depth 20
kind_small Kind.I s = search (smalls, nat_small, defs_small) depth 20
kind_small Kind.J s = search (smalls, nat_small, defs_small) depth 20
kind_small Kind.K s = search (smalls, time_small) depth 20
kind_small Kind.L s = search smalls depth 20
kind_small Kind.Other s = small_ok

line_small : (s : List ℕ) → Small (read_line_of s)
unfolding read_line_of ◌≤?◌
line_small s = search (smalls, kind_small)

-- ---- the answer

accepted_le : (r : Record) → accepted_as r ≤ 12
unfolding accepted_as
accepted_le (Record.A r) = omega arith
accepted_le (Record.B r) = omega arith
accepted_le (Record.CDeclaration r) = omega arith
accepted_le (Record.CTurnpoint r) = omega arith
accepted_le (Record.D r) = omega arith
accepted_le (Record.E r) = omega arith
accepted_le (Record.F r) = omega arith
accepted_le (Record.G r) = omega arith
accepted_le (Record.H r) = omega arith
accepted_le Record.I = omega arith
accepted_le Record.J = omega arith
accepted_le (Record.K r) = omega arith
accepted_le (Record.L r) = omega arith
accepted_le (Record.Unrecognised p) = omega arith

small_le : (m : Res Record) → Small m → answered m ≤ 12
unfolding answered
small_le (ok r) p = accepted_le r
small_le (no n) p = is≤ (p.small n refl)

pub answer_le : (s : List ℕ) → answered (read_line_of s) ≤ 12
answer_le s = small_le (read_line_of s) (line_small s)
