-- A log, or a piece of one, taken into a report.
use Rattle.report.specs.Peak.{GpsPeak, PressurePeak}
use Rattle.std.specs.Prelude.{◌+◌}
use Rattle.text.specs.Prelude.{ℕ, List, length, pick, ◌≤?◌, largest}
use Rattle.igc_log.specs.Log.{chunks, read_from}
use Rattle.igc_log.specs.Fold.{over}
use Rattle.held.specs.Tables.{no_tables}
use Rattle.walk.specs.Readings.{LineReading, reader}
use Rattle.report.specs.Figures.{Figures, empty}
use Rattle.report.specs.Report.{report_step, figures_in}
use Rattle.reported.specs.declared.Sofar.{Sofar}

-- What a walk reads of some bytes that stand from a place on; no figure looks at a line's number or at what is held.
unfoldable pub readings_at : ℕ → List ℕ → List LineReading
readings_at p s = read_from reader 0 p no_tables (chunks s)

-- The figures over these readings more.
unfoldable pub figures_on : Figures PressurePeak GpsPeak → ℕ → List ℕ → Figures PressurePeak GpsPeak
figures_on f p s = over report_step f (readings_at p s)

-- The figures of the lines so far, and the place of the next line.
pub record SoFar : Type 0 where
  pub figures : Figures PressurePeak GpsPeak
  pub place : ℕ

-- Before the first line.
unfoldable pub nothing_yet : SoFar
nothing_yet = record { figures = empty; place = 0 }

-- After some bytes more; where their end would pass 64 bits, nothing is taken.
unfoldable pub report_on_of : SoFar → List ℕ → SoFar
report_on_of c s =
    pick (c.place + length s ≤? largest)
    (record { figures = figures_on c.figures c.place s; place = c.place + length s })
    c

-- ---- what the code holds

abbrev pub so_far_in : Sofar → SoFar
so_far_in c = record { figures = figures_in c.report; place = c.place }
