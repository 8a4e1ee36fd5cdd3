-- A log watched: a line wherever the running summit of a datum rises.
use Rattle.report.specs.Peak.{GpsPeak, PressurePeak}
use Rattle.std.specs.Prelude.{◌++◌}
use Rattle.text.specs.Prelude.{ℕ, List, Res, Option, None}
use Rattle.records.specs.Record.{read_line_of}
use Rattle.records.specs.declared.Record.{Record}
use Rattle.igc_log.specs.Log.{Reader, LineRead, readings}
use Rattle.igc_log.specs.Fold.{texts}
use Rattle.report.specs.Figures.{Figures, empty}
use Rattle.report.specs.Report.{below_pressure, below_gps, taken_by}
use Rattle.rise_text.specs.Rise.{raised, pressure_rise, gps_rise, pressure_line, gps_line}
use Rattle.b_record.specs.declared.{height.PressureAlt.PressureAlt, height.GpsAlt.GpsAlt}

-- ---- what is carried

-- The report so far, and what the last line raised of either datum.
pub record Running : Type 0 where
  pub report : Figures PressurePeak GpsPeak
  pub pressure : Option PressureAlt
  pub gps : Option GpsAlt

-- Before the first line.
unfoldable pub nothing_raised : Running
nothing_raised = record { report = empty; pressure = None; gps = None }

-- After a line that brought the one report to the other.
unfoldable pub risen : Figures PressurePeak GpsPeak → Figures PressurePeak GpsPeak → Running
risen before now = record {
  report = now;
  pressure = pressure_rise (raised below_pressure before.pressure now.pressure);
  gps = gps_rise (raised below_gps before.gps now.gps);
}

-- The reader of lines that carries it.
abbrev pub watcher : Reader (Res Record) Running
watcher = record {
  read = read_line_of;
  after = λ p t s. risen t.report (taken_by t.report p (read_line_of s));
  start = nothing_raised;
}

-- What it reads of one line.
abbrev pub WatchReading : Type 0
WatchReading = LineRead (Res Record) Running

-- ---- what is written of it

-- Of line n, the pressure first.
unfoldable pub watch_line : ℕ → Running → List ℕ
watch_line n t = pressure_line n t.pressure ++ gps_line n t.gps

-- The text of a reading.
unfoldable pub watch_line_of : WatchReading → List ℕ
watch_line_of x = watch_line x.number x.held

-- The whole text of a log.
unfoldable pub watch_text_of : List ℕ → List ℕ
watch_text_of log = texts watch_line_of (readings watcher log)
