-- What a report is: its highest and lowest are the first that reached them, its parts make the whole, and its step
-- makes it, reading by reading.
use Rattle.std.specs.Prelude.{◌≤◌, ◌≡◌, ◌++◌}
use Rattle.text.specs.Prelude.{ℕ, Bool, List, length, Res, largest}
use Rattle.records.specs.Record.{read_line_of}
use Rattle.records.specs.declared.Record.{Record}
use Rattle.igc_log.specs.Log.{Reader, LineRead, readings}
use Rattle.igc_log.specs.Fold.{over}
use Rattle.report.specs.Range.{Range, range_of, IsRange}
use Rattle.report.specs.Counts.{summed}
use Rattle.report.specs.Figures.{earlier, empty, both}
use Rattle.report.specs.Report.{below_pressure, below_gps, report_of, report_step}

-- The range of some things says which is the highest and which the lowest, and no other range does.
pub record OneRange {P : Type 0} (below : P → P → Bool) : Type 0 where
  pub is : (ps : List P) → IsRange below ps (range_of below ps)
  pub only : (ps : List P) (r : Range P) → IsRange below ps r → r ≡ range_of below ps

pub record Agrees : Type 1 where
  -- Heights and times.
  pub pressure : OneRange below_pressure
  pub gps : OneRange below_gps
  pub times : OneRange earlier
  -- The report of readings in two parts is that of the one and of the other, as one.
  pub parts : {T : Type 0} (xs ys : List (LineRead (Res Record) T)) →
      report_of (xs ++ ys) ≡ both below_pressure below_gps (report_of xs) (report_of ys)
  -- Readings taken one after the other make their report, as many as 64 bits count.
  pub steps : {T : Type 0} (xs : List (LineRead (Res Record) T)) → length xs ≤ largest →
      over report_step empty xs ≡ report_of xs
  -- Each line of a log has one of the answers that are counted by their numbers.
  pub answers : {T : Type 0} (R : Reader (Res Record) T) → ((s : List ℕ) → R.read s ≡ read_line_of s) → (log : List ℕ) →
      let report = report_of (readings R log) in summed report.answers ≡ report.lines
