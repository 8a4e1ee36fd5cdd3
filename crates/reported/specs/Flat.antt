-- The figures of a report as plain numbers, which a loop carries, and one line more in them, by its glance.
use Rattle.report.specs.Peak.{GpsPeak, PressurePeak}
use Rattle.std.specs.Prelude.{◌+◌}
use Rattle.text.specs.Prelude.{ℕ, zero, suc, Bool, true, List, get_or, set, pick, ◌≤?◌, ◌∧?◌, ◌∨?◌}
use Rattle.text.specs.Prelude.{largest}
use Rattle.b_record.specs.declared.{height.PressureAlt.PressureAlt, height.GpsAlt.GpsAlt}
use Rattle.report.specs.Range.{Range, none, between, joined}
use Rattle.report.specs.Figures.{Figures, earlier}
use Rattle.report.specs.Report.{below_pressure, below_gps}
use Rattle.reported.specs.declared.{glance.Glance.Glance, flat.Flat.Flat, heights.Ends.Ends, times.TimeEnds.TimeEnds}
use Rattle.report.specs.declared.peak.Peak.{Peak}

-- ---- what the numbers stand for

-- The range between two ends; where nothing was seen there is none.
unfoldable pub ranged : {P : Type 0} → ℕ → P → P → Range P
ranged zero high low = none
ranged (suc n) high low = between high low

abbrev pub ends_between : {H : Type 0} → Ends H → Range (Peak H)
ends_between e = ranged e.seen
    (record { place = e.high_place; height = e.high })
    (record { place = e.low_place; height = e.low })

abbrev pub times_between : TimeEnds → Range ℕ
times_between e = ranged e.seen e.latest e.earliest

-- With the counts by answer number, which stand beside.
abbrev pub flat_in : List ℕ → Flat → Figures PressurePeak GpsPeak
flat_in answers f = record {
  lines = f.lines;
  answers = answers;
  fixes = f.fixes;
  pressure = ends_between f.pressure;
  gps = ends_between f.gps;
  times = times_between f.times;
}

-- ---- one line more

-- What is seen first is an end, and later what is beyond the one so far.
unfoldable pub new_end_of : ℕ → Bool → Bool
new_end_of zero beyond = true
new_end_of (suc n) beyond = beyond

-- Of one thing more, where it counts.
unfoldable pub one_seen : {P : Type 0} → (P → P → Bool) → Bool → P → Range P → Range P
one_seen below counts p r = pick counts (joined below r (between p p)) r

-- Of one pressure height more.
unfoldable pub with_pressure : Bool → ℕ → PressureAlt → Range PressurePeak → Range PressurePeak
with_pressure counts p h r = one_seen below_pressure counts (record { place = p; height = h }) r

-- Of one GPS height more.
unfoldable pub with_gps : Bool → ℕ → GpsAlt → Range GpsPeak → Range GpsPeak
with_gps counts p h r = one_seen below_gps counts (record { place = p; height = h }) r

-- Of one time more.
unfoldable pub with_time_of : Bool → ℕ → Range ℕ → Range ℕ
with_time_of counts s r = one_seen earlier counts s r

-- The counts with one more of a number.
unfoldable pub one_more : List ℕ → ℕ → List ℕ
one_more answers n = set answers n (get_or answers n 0 + 1)

-- No count that a line raises is at its largest: of lines, of its answer, and of fixes.
unfoldable pub room_by : ℕ → ℕ → ℕ → Bool → Bool
room_by lines count fixes fix =
    (lines + 1 ≤? largest) ∧? (count + 1 ≤? largest) ∧? (fixes + pick fix 1 0 ≤? largest)

-- A count that a line raises is at its largest: of lines, of fixes, or of its answer.
unfoldable pub full_by : ℕ → ℕ → ℕ → Bool
full_by lines fixes count = (largest ≤? lines) ∨? (largest ≤? fixes) ∨? (largest ≤? count)

-- Over one line more at a place, where every count has room.
unfoldable pub glanced : Figures PressurePeak GpsPeak → ℕ → Glance → Figures PressurePeak GpsPeak
glanced f p g = record {
  lines = f.lines + 1;
  answers = one_more f.answers g.number;
  fixes = f.fixes + pick g.fix 1 0;
  pressure = with_pressure g.marked p g.pressure f.pressure;
  gps = with_gps g.marked p g.gps f.gps;
  times = with_time_of g.fix g.seconds f.times;
}
