-- What the code makes of one reading more is what the step makes of it.
use Rattle.report.specs.Peak.{GpsPeak, PressurePeak}
use Rattle.text.specs.Prelude.{None, Some}
use Rattle.text.specs.Prelude.{ℕ, ◌+◌, ◌≤◌, ◌<◌, ◌≡◌, List, length, get_or, set, Res, largest}
use Rattle.text.proofs.Prelude.{arith, refl, sym, first, second, yes≤, no≤, holds, fails, and}
use native.Mathlib.Nat.{add-zero}
use Rattle.time.specs.Time.{seconds_of_lem}
use Rattle.b_record.specs.declared.{BRecord.BRecord, FixValid.FixValid}
use Rattle.records.specs.Record.{answered, answer_fix}
use Rattle.records.specs.declared.{Record.Record}
use Rattle.report.specs.Range.{Range, between, joined}
use Rattle.report.specs.Counts.{numbers, by_number, added}
use Rattle.report.specs.Figures.{Figures, earlier, both}
use Rattle.report.specs.Report.{fixes_in, of_fix_of, marked, pressure_at, gps_at, time_at, below_pressure, below_gps}
use Rattle.report.specs.Report.{one_of, room_for, taken_by, with_fix_of}
use Rattle.report.proofs.Ranges.{joined_none, range_none, range_one}
use Rattle.report.proofs.Counts.{raised}

-- ---- the heights and the time of a fix

-- the counts of f, with these heights and times
abbrev ranged : Figures PressurePeak GpsPeak → Range PressurePeak → Range GpsPeak → Range ℕ →
    Figures PressurePeak GpsPeak
ranged f pressure gps times = record {
  lines = f.lines;
  answers = f.answers;
  fixes = f.fixes;
  pressure = pressure;
  gps = gps;
  times = times;
}

module _ (f : Figures PressurePeak GpsPeak) (p : ℕ) (b : BRecord) {s : ℕ} {times : Range ℕ}
    (seconds : s ≡ seconds_of_lem b.timestamp) (with-time : times ≡ joined earlier f.times (between s s)) where
  -- marked A
  pub valid_fix : {h : PressurePeak} {g : GpsPeak} {pressure : Range PressurePeak} {gps : Range GpsPeak} →
      b.fix_valid ≡ FixValid.Valid →
      h ≡ record { place = p; height = b.pressure_alt } →
      g ≡ record { place = p; height = b.gps_alt } →
      pressure ≡ joined below_pressure f.pressure (between h h) →
      gps ≡ joined below_gps f.gps (between g g) →
      ranged f pressure gps times ≡ with_fix_of f p b
  unfolding with_fix_of pressure_at gps_at time_at marked
  valid_fix valid is-h is-g with-pressure with-gps = rw (
    with-pressure,
    with-gps,
    with-time,
    seconds,
    is-h,
    is-g,
    valid,
    range_one below_pressure,
    range_one below_gps,
    range_one earlier,
  )

  -- marked V
  pub warned_fix : b.fix_valid ≡ FixValid.NavWarning → ranged f f.pressure f.gps times ≡ with_fix_of f p b
  unfolding with_fix_of pressure_at gps_at time_at marked
  warned_fix warned = rw (
    with-time,
    seconds,
    warned,
    range_none below_pressure,
    range_none below_gps,
    joined_none below_pressure,
    joined_none below_gps,
    range_one earlier,
  )

-- ---- counts

-- The counts of lines and of this answer have room, and `answers` has one more of it.
pub record Counted (f : Figures PressurePeak GpsPeak) (m : Res Record) (answers : List ℕ) : Type 0 where
  pub lines : f.lines < largest
  pub answer : get_or f.answers (answered m) 0 < largest
  pub one_more : answers ≡ added f.answers (one_of 0 m).answers

-- where n is the answer's number and `count` how many had it so far
pub counted : (f : Figures PressurePeak GpsPeak) (m : Res Record) {n count : ℕ} {answers : List ℕ} →
    n ≡ answered m → count ≡ get_or f.answers (answered m) 0 → answers ≡ set f.answers n (count + 1) →
    length f.answers ≡ numbers → f.lines < largest → count < largest → Counted f m answers
unfolding one_of by_number
counted f m number is one_more wide lines answer = record {
  lines = lines;
  answer = rw is at answer;
  one_more = rw (one_more, number, is) (rw wide at (raised f.answers (answered m)));
}

-- ---- one reading more

-- a line more, with these counts and the heights and times of f
abbrev counting : Figures PressurePeak GpsPeak → List ℕ → ℕ → Figures PressurePeak GpsPeak
counting f answers fixes = record {
  lines = f.lines + 1;
  answers = answers;
  fixes = fixes;
  pressure = f.pressure;
  gps = f.gps;
  times = f.times;
}

module _ (f : Figures PressurePeak GpsPeak) (p : ℕ) (m : Res Record) where
  -- where a count is at its largest, the figures stay
  pub lines_full : largest ≤ f.lines → f ≡ taken_by f p m
  unfolding taken_by room_for
  lines_full h = second _ (fails _ (no≤ (omega arith))) refl

  pub answer_full : {count : ℕ} → count ≡ get_or f.answers (answered m) 0 → f.lines < largest → largest ≤ count →
      f ≡ taken_by f p m
  unfolding taken_by room_for
  answer_full is l h = second _ (holds (yes≤ (omega arith)) (fails _ (no≤ (omega arith)))) refl

  module _ {answers : List ℕ} (counts : Counted f m answers) where
    pub fixes_full : {b : BRecord} → Some b ≡ answer_fix m → largest ≤ f.fixes → f ≡ taken_by f p m
    unfolding taken_by room_for fixes_in
    fixes_full fix h =
        second _ (holds (yes≤ (omega arith)) (holds (yes≤ (omega arith)) (rw (sym fix) (no≤ (omega arith))))) refl

    -- else the reading is taken
    taken : {g : Figures PressurePeak GpsPeak} → f.fixes + fixes_in (answer_fix m) ≤ largest →
        g ≡ both below_pressure below_gps f (one_of p m) → g ≡ taken_by f p m
    unfolding taken_by room_for
    taken h e = first _ (and (yes≤ (omega arith)) (and (yes≤ (omega arith)) (yes≤ h))) e

    pub taken_fix : {b : BRecord} → Some b ≡ answer_fix m → f.fixes < largest →
        with_fix_of (counting f answers (f.fixes + 1)) p b ≡ taken_by f p m
    unfolding both one_of with_fix_of of_fix_of fixes_in
    taken_fix fix h = taken (rw (sym fix) (omega arith)) (rw (counts.one_more, sym fix))

    pub taken_other : None ≡ answer_fix m → f.fixes ≤ largest →
        counting f answers f.fixes ≡ taken_by f p m
    unfolding both one_of of_fix_of fixes_in
    taken_other fix h = taken (rw (sym fix) (omega arith)) (rw (
      counts.one_more,
      sym fix,
      add-zero,
      range_none below_pressure,
      range_none below_gps,
      range_none earlier,
      joined_none below_pressure,
      joined_none below_gps,
      joined_none earlier,
    ))
