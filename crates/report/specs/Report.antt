-- The report of a log: each figure by itself over the readings of a walk, and a reading at a time.
use Rattle.std.specs.Prelude.{◌+◌, ◌∷◌, ◌++◌}
use Rattle.text.specs.Prelude.{ℕ, Bool, List, [], Option, Some, None, length, get_or, Res, pick, ◌≤?◌, ◌=?◌, ◌∧?◌, ◌∨?◌}
use Rattle.text.specs.Prelude.{largest}
use Rattle.std.specs.Int.Signed.{lt_z}
use Rattle.time.specs.Time.{seconds_of_lem}
use Rattle.b_record.specs.declared.{BRecord.BRecord, FixValid.FixValid}
use Rattle.records.specs.Record.{answered, answer_fix}
use Rattle.records.specs.declared.{Record.Record}
use Rattle.igc_log.specs.Log.{LineRead}
use Rattle.report.specs.Range.{joined, range_of}
use Rattle.report.specs.Counts.{by_number, one_full_of}
use Rattle.report.specs.Figures.{Figures, earlier, both}
use Rattle.report.specs.Peak.{PressurePeak, GpsPeak, range_in, made}
use Rattle.report.specs.declared.Report.{Report}

-- ---- what one reading shows

-- An accepted B line is one fix, and any other line none.
unfoldable pub fixes_in : Option BRecord → ℕ
fixes_in (Some b) = 1
fixes_in None = 0

-- What f shows of a fix; of none nothing.
unfoldable pub of_fix_of : {X : Type 0} → (BRecord → List X) → Option BRecord → List X
of_fix_of f (Some b) = f b
of_fix_of f None = []

-- x of a fix marked A; a fix marked V shows no height.
unfoldable pub marked : {X : Type 0} → FixValid → X → List X
marked FixValid.Valid x = x ∷ []
marked FixValid.NavWarning x = []

-- The pressure height of a fix marked A, with its place.
unfoldable pub pressure_at : ℕ → BRecord → List PressurePeak
pressure_at p b = marked b.fix_valid (record { place = p; height = b.pressure_alt })

-- The GPS height of a fix marked A, with its place.
unfoldable pub gps_at : ℕ → BRecord → List GpsPeak
gps_at p b = marked b.fix_valid (record { place = p; height = b.gps_alt })

-- The seconds since midnight of a fix, marked A or V.
unfoldable pub time_at : ℕ → BRecord → List ℕ
time_at p b = seconds_of_lem b.timestamp ∷ []

-- The first pressure height is the lower, wherever the two were seen.
unfoldable pub below_pressure : PressurePeak → PressurePeak → Bool
below_pressure a b = lt_z a.height.0 b.height.0

-- The first GPS height is the lower, wherever the two were seen.
unfoldable pub below_gps : GpsPeak → GpsPeak → Bool
below_gps a b = lt_z a.height.0 b.height.0

-- ---- some readings

module _ {T : Type 0} where
  -- How many of them were answered with that number.
  unfoldable pub answered_with : ℕ → List (LineRead (Res Record) T) → ℕ
  answered_with n [] = 0
  answered_with n (x ∷ xs) = pick (answered x.answer =? n) 1 0 + answered_with n xs

  -- How many of them are accepted B lines.
  unfoldable pub fixes_of : List (LineRead (Res Record) T) → ℕ
  fixes_of [] = 0
  fixes_of (x ∷ xs) = fixes_in (answer_fix x.answer) + fixes_of xs

  -- What f shows of each fix and its place, in order.
  unfoldable pub shown : {X : Type 0} → (ℕ → BRecord → List X) → List (LineRead (Res Record) T) → List X
  shown f [] = []
  shown f (x ∷ xs) = of_fix_of (f x.place) (answer_fix x.answer) ++ shown f xs

  -- Their report.
  unfoldable pub report_of : List (LineRead (Res Record) T) → Figures PressurePeak GpsPeak
  report_of xs = record {
    lines = length xs;
    answers = by_number (λ n. answered_with n xs);
    fixes = fixes_of xs;
    pressure = range_of below_pressure (shown pressure_at xs);
    gps = range_of below_gps (shown gps_at xs);
    times = range_of earlier (shown time_at xs);
  }

-- ---- a reading at a time

-- The report of one reading, answered m at the place p.
unfoldable pub one_of : ℕ → Res Record → Figures PressurePeak GpsPeak
one_of p m = record {
  lines = 1;
  answers = by_number (λ n. pick (answered m =? n) 1 0);
  fixes = fixes_in (answer_fix m);
  pressure = range_of below_pressure (of_fix_of (pressure_at p) (answer_fix m));
  gps = range_of below_gps (of_fix_of (gps_at p) (answer_fix m));
  times = range_of earlier (of_fix_of (time_at p) (answer_fix m));
}

-- No count that this reading raises is at its largest.
unfoldable pub room_for : Figures PressurePeak GpsPeak → Res Record → Bool
room_for f m =
    (f.lines + 1 ≤? largest)
    ∧? (get_or f.answers (answered m) 0 + 1 ≤? largest)
    ∧? (f.fixes + fixes_in (answer_fix m) ≤? largest)

-- Over one reading more; where a count is at its largest, the figures stay.
unfoldable pub taken_by : Figures PressurePeak GpsPeak → ℕ → Res Record → Figures PressurePeak GpsPeak
taken_by f p m = pick (room_for f m) (both below_pressure below_gps f (one_of p m)) f

-- With the heights and the time of a fix more, at the place p.
unfoldable pub with_fix_of : Figures PressurePeak GpsPeak → ℕ → BRecord → Figures PressurePeak GpsPeak
with_fix_of f p b = record {
  lines = f.lines;
  answers = f.answers;
  fixes = f.fixes;
  pressure = joined below_pressure f.pressure (range_of below_pressure (pressure_at p b));
  gps = joined below_gps f.gps (range_of below_gps (gps_at p b));
  times = joined earlier f.times (range_of earlier (time_at p b));
}

-- Over one reading more, as a step.
unfoldable pub report_step : {T : Type 0} → Figures PressurePeak GpsPeak → LineRead (Res Record) T →
    Figures PressurePeak GpsPeak
report_step f x = taken_by f x.place x.answer

-- A count is at its largest: of lines, of accepted B lines, or of an answer.
unfoldable pub is_full_of : Figures PressurePeak GpsPeak → Bool
is_full_of f = (largest ≤? f.lines) ∨? (largest ≤? f.fixes) ∨? one_full_of f.answers

-- ---- what the code holds

abbrev pub figures_in : Report → Figures PressurePeak GpsPeak
figures_in r = record {
  lines = r.lines;
  answers = r.answers;
  fixes = r.fixes;
  pressure = range_in r.pressure;
  gps = range_in r.gps;
  times = range_in r.times;
}

-- What the code holds that is viewed as these figures.
abbrev pub report_made : Figures PressurePeak GpsPeak → Report
report_made f = record {
  answers = f.answers;
  lines = f.lines;
  fixes = f.fixes;
  pressure = made f.pressure;
  gps = made f.gps;
  times = made f.times;
}

-- A report over one reading more, answered m at the place p.
unfoldable pub report_after : Report → ℕ → Res Record → Report
report_after r p m = report_made (taken_by (figures_in r) p m)
