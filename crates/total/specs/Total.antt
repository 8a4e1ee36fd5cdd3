-- The total of some logs: each figure by itself over the readings of all of them in order, and a log at a time.
use Rattle.span.specs.Spot.{GpsSpot, PressureSpot}
use Rattle.report.specs.Peak.{GpsPeak, PressurePeak}
use Rattle.std.specs.Prelude.{Result, ◌+◌, ◌∷◌, ◌++◌}
use Rattle.text.specs.Prelude.{ℕ, Bool, List, [], map, length, Option, Some, None, Res, ok, no, pick, ◌∧?◌}
use Rattle.records.specs.declared.Record.{Record}
use Rattle.igc_log.specs.Log.{LineRead}
use Rattle.report.specs.Range.{range_of}
use Rattle.report.specs.Counts.{by_number, summed, added}
use Rattle.report.specs.Figures.{Figures, earlier, empty, both}
use Rattle.report.specs.Peak.{range_in}
use Rattle.report.specs.Report.{answered_with, fixes_of, shown, pressure_at, gps_at, time_at}
use Rattle.span.specs.Span.{pressure_spot, gps_spot, lower_pressure, lower_gps, mapped, later_pressure, later_gps, all_fit}
use Rattle.span.specs.Span.{numbers_of}
use Rattle.total.specs.declared.{Total.Total, TooLarge.TooLarge}

-- How many logs, and the figures over all of them.
pub record Totals : Type 0 where
  pub logs : ℕ
  pub figures : Figures PressureSpot GpsSpot

-- ---- some logs

-- What f shows of each log and its number, in order; the first has the number n.
unfoldable pub in_order : {L X : Type 0} → (ℕ → L → List X) → ℕ → List L → List X
in_order f n [] = []
in_order f n (xs ∷ logs) = f n xs ++ in_order f (n + 1) logs

-- Some logs, each as its readings.
abbrev pub Logs : Type 0 → Type 0
Logs T = List (List (LineRead (Res Record) T))

module _ {T : Type 0} where
  -- The pressure heights of the log n.
  unfoldable pub pressure_shown : ℕ → List (LineRead (Res Record) T) → List PressureSpot
  pressure_shown n xs = map (pressure_spot n) (shown pressure_at xs)

  -- The GPS heights of the log n.
  unfoldable pub gps_shown : ℕ → List (LineRead (Res Record) T) → List GpsSpot
  gps_shown n xs = map (gps_spot n) (shown gps_at xs)

  -- The times of a log, whatever its number.
  unfoldable pub time_shown : ℕ → List (LineRead (Res Record) T) → List ℕ
  time_shown n xs = shown time_at xs

  -- Their total; the first log has the number 1.
  unfoldable pub total_of : Logs T → Totals
  total_of logs = record {
    logs = length logs;
    figures = record {
      lines = summed (map length logs);
      answers = by_number (λ n. summed (map (answered_with n) logs));
      fixes = summed (map fixes_of logs);
      pressure = range_of lower_pressure (in_order pressure_shown 1 logs);
      gps = range_of lower_gps (in_order gps_shown 1 logs);
      times = range_of earlier (in_order time_shown 1 logs);
    };
  }

-- ---- a log at a time

-- The total of no logs.
unfoldable pub no_logs : Totals
no_logs = record { logs = 0; figures = empty }

-- A log's report, its heights at places of the log n.
unfoldable pub in_log_of : ℕ → Figures PressurePeak GpsPeak → Figures PressureSpot GpsSpot
in_log_of n f = record {
  lines = f.lines;
  answers = f.answers;
  fixes = f.fixes;
  pressure = mapped (pressure_spot n) f.pressure;
  gps = mapped (gps_spot n) f.gps;
  times = f.times;
}

-- The total of one log.
unfoldable pub one_log : Figures PressurePeak GpsPeak → Totals
one_log f = record { logs = 1; figures = in_log_of 1 f }

-- With the report of one log more.
unfoldable pub add_of : Totals → Figures PressurePeak GpsPeak → Totals
add_of t f = record {
  logs = t.logs + 1;
  figures = both lower_pressure lower_gps t.figures (in_log_of (t.logs + 1) f);
}

-- Every count of a total fits 64 bits.
unfoldable pub total_fits : Totals → Bool
total_fits t = all_fit (t.logs ∷ t.figures.lines ∷ t.figures.fixes ∷ t.figures.answers)

-- Every count fits 64 bits with the report of one log more.
unfoldable pub add_fits : Totals → Figures PressurePeak GpsPeak → Bool
add_fits t f = total_fits (add_of t f)

-- ---- two totals

-- The same figures, their log numbers shifted by k.
unfoldable pub later_by : ℕ → Figures PressureSpot GpsSpot → Figures PressureSpot GpsSpot
later_by k f = record {
  lines = f.lines;
  answers = f.answers;
  fixes = f.fixes;
  pressure = mapped (later_pressure k) f.pressure;
  gps = mapped (later_gps k) f.gps;
  times = f.times;
}

-- The logs of the first and then those of the second, whose log numbers are shifted by the length of the first.
unfoldable pub join_of : Totals → Totals → Totals
join_of a b = record {
  logs = a.logs + b.logs;
  figures = both lower_pressure lower_gps a.figures (later_by a.logs b.figures);
}

-- The log numbers that figures name.
unfoldable pub log_numbers : Figures PressureSpot GpsSpot → List ℕ
log_numbers f = numbers_of (λ s. s.log) f.pressure ++ numbers_of (λ s. s.log) f.gps

-- Every joined count fits 64 bits, and every log number of the second, shifted.
unfoldable pub join_fits : Totals → Totals → Bool
join_fits a b = total_fits (join_of a b) ∧? all_fit (log_numbers (later_by a.logs b.figures))

-- A total; or the number of a refusal, and no total.
pub data Joining : Type 0 where
  given : Totals → Joining
  refused : ℕ → Joining

-- The joined total; 21 exactly where a joined count or a shifted log number would not fit.
unfoldable pub join_res : Totals → Totals → Joining
join_res a b = pick (join_fits a b) (given (join_of a b)) (refused 21)

-- The total with the report of one log more where every count of it fits; 21 where one would not.
unfoldable pub add_res : Totals → Figures PressurePeak GpsPeak → Joining
add_res t f = pick (add_fits t f) (given (add_of t f)) (refused 21)

-- Counts with those of another, where they fit.
unfoldable pub sums_res : List ℕ → List ℕ → Option (List ℕ)
sums_res ns ms = pick (all_fit (added ns ms)) (Some (added ns ms)) None

-- ---- what the code holds

abbrev pub total_in : Total → Totals
total_in t = record {
  logs = t.logs;
  figures = record {
    lines = t.lines;
    answers = t.answers;
    fixes = t.fixes;
    pressure = range_in t.pressure;
    gps = range_in t.gps;
    times = range_in t.times;
  };
}

-- 21 is the paper's number.
abbrev pub joined_in : Result Total TooLarge → Joining
joined_in (ok t) = given (total_in t)
joined_in (no e) = refused 21
