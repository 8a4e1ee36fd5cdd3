-- The report of readings in parts, and reading by reading.
use Rattle.report.specs.Peak.{GpsPeak, PressurePeak}
use Rattle.text.specs.Prelude.{ℕ, zero, suc, ◌+◌, ◌≤◌, ◌<◌, ◌≡◌, Bool, true, false, List, [], ◌∷◌, ◌++◌, length, take}
use Rattle.text.specs.Prelude.{get_or, Res, pick, ◌=?◌, ◌∨?◌, largest}
use Rattle.text.proofs.Prelude.{arith, refl, sym, ◌∙◌, no≤}
use Rattle.records.specs.Record.{read_line_of, answered, answer_fix}
use Rattle.records.specs.declared.{Record.Record}
use Rattle.records.proofs.Numbers.{answer_le}
use Rattle.igc_log.specs.Line.{line_text}
use Rattle.igc_log.specs.Log.{Reader, LineRead, chunks, read_from, readings}
use Rattle.igc_log.specs.Fold.{over}
use Rattle.report.specs.Range.{Every, range_of}
use Rattle.report.specs.Counts.{from, numbers, by_number, summed}
use Rattle.report.specs.Figures.{Figures, empty, both}
use Rattle.report.specs.Report.{of_fix_of, pressure_at, gps_at, time_at, below_pressure, below_gps, answered_with}
use Rattle.report.specs.Report.{fixes_of, shown, report_of, one_of, taken_by, report_step, is_full_of}
use Rattle.report.specs.Laws.{Agrees}
use Rattle.report.proofs.Ranges.{range_append, ordered_range}
use Rattle.report.proofs.Counts.{length_from, get_d_from_le, added_from, get_d_added, length_added, summed_added}
use Rattle.report.proofs.Counts.{one_in_all}
use Rattle.report.proofs.Figures.{pressure_order, gps_order, times_order, both_assoc, both_empty, empty_both}
use Rattle.report.proofs.Full.{one_fix, none_reached, taken_below}

-- the figures of what was read first and later, with their places
abbrev with : Figures PressurePeak GpsPeak → Figures PressurePeak GpsPeak → Figures PressurePeak GpsPeak
with a b = both below_pressure below_gps a b

-- ---- in parts

report_none : (T : Type 0) → report_of {T = T} [] ≡ empty
unfolding report_of empty answered_with fixes_of shown range_of
report_none T = refl

module _ {T : Type 0} where
  -- the first reading, and those after it
  report_cons : (x : LineRead (Res Record) T) (xs : List (LineRead (Res Record) T)) →
      report_of (x ∷ xs) ≡ with (one_of x.place x.answer) (report_of xs)
  unfolding report_of one_of both by_number answered_with fixes_of shown
  report_cons x xs =
      let p = x.place in
      let b = answer_fix x.answer in
      let one_more : suc (length xs) ≡ 1 + length xs = omega arith in
      rw (
        one_more,
        added_from numbers 0 (λ n. pick (answered x.answer =? n) 1 0) (λ n. answered_with n xs),
        range_append pressure_order (of_fix_of (pressure_at p) b) (shown pressure_at xs),
        range_append gps_order (of_fix_of (gps_at p) b) (shown gps_at xs),
        range_append times_order (of_fix_of (time_at p) b) (shown time_at xs),
      )

  pub report_wide : (xs : List (LineRead (Res Record) T)) → length (report_of xs).answers ≡ numbers
  unfolding report_of by_number
  report_wide xs = length_from numbers 0 (λ n. answered_with n xs)

  pub report_append : (xs ys : List (LineRead (Res Record) T)) → report_of (xs ++ ys) ≡ with (report_of xs) (report_of ys)
  report_append [] ys = rw (report_none T) (sym (empty_both below_pressure below_gps (report_of ys) (report_wide ys)))
  report_append (x ∷ xs) ys =
      rw (
        report_cons x (xs ++ ys),
        report_append xs ys,
        report_cons x xs,
        both_assoc pressure_order gps_order (one_of x.place x.answer) (report_of xs) (report_of ys),
      )

-- ---- whatever is held

module _ {T U : Type 0} (R : Reader (Res Record) T) (Q : Reader (Res Record) U)
    (same : (s : List ℕ) → R.read s ≡ Q.read s) where
  -- readers that answer alike make one report of the first k lines
  pub report_any : (k n p : ℕ) (t : T) (u : U) (cs : List (List ℕ)) →
      report_of (take k (read_from R n p t cs)) ≡ report_of (take k (read_from Q n p u cs))
  unfolding read_from
  report_any zero n p t u cs = report_none T ∙ sym (report_none U)
  report_any (suc k) n p t u [] = report_none T ∙ sym (report_none U)
  report_any (suc k) n p t u (c ∷ cs) =
      let l = line_text c in
      let later = report_any k (n + 1) (p + length c) (R.after p t l) (Q.after p u l) cs in
      report_cons _ _ ∙ rw (same l, later) (sym (report_cons _ _))

-- ---- reading by reading

-- Each count has room for k readings more.
pub record Room (f : Figures PressurePeak GpsPeak) (k : ℕ) : Type 0 where
  pub wide : length f.answers ≡ numbers
  pub lines : f.lines + k ≤ largest
  pub answers : (n : ℕ) → get_or f.answers n 0 + k ≤ largest
  pub fixes : f.fixes + k ≤ largest

-- and so for fewer
pub room_less : {f : Figures PressurePeak GpsPeak} {j k : ℕ} → j ≤ k → Room f k → Room f j
room_less h room = record {
  wide = room.wide;
  lines = omega (arith, room.lines);
  answers = λ n. omega (arith, room.answers n);
  fixes = omega (arith, room.fixes);
}

-- where there is room no count is at its largest
pub room_open : {f : Figures PressurePeak GpsPeak} {k : ℕ} → Room f (suc k) → is_full_of f ≡ false
unfolding is_full_of ◌∨?◌ pick
room_open {f} room =
    let lines : f.lines < largest = omega (arith, room.lines) in
    let fixes : f.fixes < largest = omega (arith, room.fixes) in
    rw (no≤ lines, no≤ fixes) (none_reached f.answers (λ n. omega (arith, room.answers n)))

-- before the first reading there is room for as many as 64 bits count
pub room_first : {k : ℕ} → k ≤ largest → Room empty k
unfolding empty by_number
room_first h = record {
  wide = length_from numbers 0 (λ n. 0);
  lines = omega arith;
  answers = λ n. omega (arith, get_d_from_le numbers 0 (λ n. 0) 0 n (λ i. omega arith));
  fixes = omega arith;
}

-- a reading raises a count by at most one
one_at_most : (t : Bool) → pick t 1 0 ≤ 1
unfolding pick
one_at_most true = omega arith
one_at_most false = omega arith

module _ (f : Figures PressurePeak GpsPeak) (p : ℕ) (m : Res Record) {k : ℕ} (room : Room f (suc k)) where
  -- where there is room the reading is taken
  pub taken_is : taken_by f p m ≡ with f (one_of p m)
  taken_is = taken_below f (room_open room) p m

  -- and room for one reading less is left
  pub room_left : Room (with f (one_of p m)) k
  unfolding both one_of by_number
  room_left =
      let one : ℕ → ℕ = λ n. pick (answered m =? n) 1 0 in
      let ones = from numbers 0 one in
      record {
        wide = length_added f.answers ones (room.wide ∙ sym (length_from numbers 0 one)) ∙ room.wide;
        lines = omega (arith, room.lines);
        answers = λ n.
            let few = get_d_from_le numbers 0 one 1 n (λ i. one_at_most (answered m =? i)) in
            omega (arith, get_d_added f.answers ones n, room.answers n);
        fixes = omega (arith, room.fixes, one_fix (answer_fix m));
      }

-- readings taken one after the other are joined to what was taken before
over_taken : {T : Type 0} (f : Figures PressurePeak GpsPeak) (xs : List (LineRead (Res Record) T)) →
    Room f (length xs) → over report_step f xs ≡ with f (report_of xs)
unfolding over report_step
over_taken {T} f [] room = rw (report_none T) (sym (both_empty below_pressure below_gps f room.wide))
over_taken f (x ∷ xs) room =
    let one = one_of x.place x.answer in
    rw (
      taken_is f x.place x.answer room,
      over_taken (with f one) xs (room_left f x.place x.answer room),
      report_cons x xs,
      both_assoc pressure_order gps_order f one (report_of xs),
    )

pub taken_all : {T : Type 0} (xs : List (LineRead (Res Record) T)) → length xs ≤ largest →
    over report_step empty xs ≡ report_of xs
taken_all xs h =
    over_taken empty xs (room_first h) ∙ empty_both below_pressure below_gps (report_of xs) (report_wide xs)

-- ---- each line has one of the answers

module _ {T : Type 0} where
  -- where each answer is one of those that are counted, these counts are all lines
  all_counted : (xs : List (LineRead (Res Record) T)) → Every (λ x. answered x.answer ≤ 12) xs →
      summed (report_of xs).answers ≡ (report_of xs).lines
  unfolding both one_of empty by_number from summed
  all_counted [] h = rw (report_none T)
  all_counted (x ∷ xs) h =
      let one = one_in_all numbers 0 (answered x.answer) (omega arith) (omega (arith, h.0)) in
      rw (report_cons x xs) (omega (
        arith,
        summed_added (one_of x.place x.answer).answers (report_of xs).answers,
        all_counted xs h.1,
      ))

  module _ (R : Reader (Res Record) T) (reads : (s : List ℕ) → R.read s ≡ read_line_of s) where
    read_counted : (n p : ℕ) (t : T) (cs : List (List ℕ)) →
        Every (λ x. answered x.answer ≤ 12) (read_from R n p t cs)
    unfolding read_from
    read_counted n p t [] = tt
    read_counted n p t (c ∷ cs) = (
      rw (reads (line_text c)) (answer_le (line_text c)),
      read_counted (n + 1) (p + length c) (R.after p t (line_text c)) cs,
    )

    lines_are_answered : (log : List ℕ) →
        let report = report_of (readings R log) in summed report.answers ≡ report.lines
    unfolding readings
    lines_are_answered log = all_counted (readings R log) (read_counted 0 0 R.start (chunks log))

-- ---- all of it

pub agrees : Agrees
agrees = record {
  pressure = ordered_range pressure_order;
  gps = ordered_range gps_order;
  times = ordered_range times_order;
  parts = report_append;
  steps = taken_all;
  answers = lines_are_answered;
}
