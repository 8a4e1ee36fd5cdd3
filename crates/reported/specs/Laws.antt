-- A log in pieces of whole lines comes to the report of the whole log.
use Rattle.std.specs.Prelude.{◌+◌, ◌≤◌, ◌≡◌, ◌++◌}
use Rattle.text.specs.Prelude.{ℕ, true, List, length, largest}
use Rattle.igc_log.specs.Log.{closed, readings}
use Rattle.walk.specs.Readings.{reader}
use Rattle.report.specs.Report.{report_of}
use Rattle.reported.specs.Reported.{SoFar, nothing_yet, report_on_of}

pub record InPieces : Type 0 where
  -- A run of whole lines, and then what follows.
  pub two : (c : SoFar) (a b : List ℕ) → closed a ≡ true → c.place + length a + length b ≤ largest →
      report_on_of (report_on_of c a) b ≡ report_on_of c (a ++ b)
  -- A whole log, from the start.
  pub whole : (log : List ℕ) → length log ≤ largest →
      report_on_of nothing_yet log ≡ record { figures = report_of (readings reader log); place = length log }
