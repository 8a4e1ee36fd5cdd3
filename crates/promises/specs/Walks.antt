-- A fresh walk reads every line of the log once, in order, before it is done, and its report is that of the lines read
-- so far; and so does the desk's reader.
use Rattle.std.specs.Borrow.{Bor}
use Rattle.std.specs.Prelude.{◌+◌, ◌≤◌, ◌≡◌, ◌∷◌}
use Rattle.text.specs.Prelude.{ℕ, true, false, List, length, take, drop, largest}
use Rattle.part.specs.Part.{bytes_of}
use Rattle.records.specs.Record.{read_line_of}
use Rattle.igc_log.specs.Line.{cut_at}
use Rattle.igc_log.specs.Log.{readings}
use Rattle.held.specs.Tables.{no_tables}
use Rattle.report.specs.Report.{report_of, figures_in, report_made}
use Rattle.cursor.specs.Cursor.{start}
use Rattle.walk.specs.Walk.{fresh, step_of, is_done}
use Rattle.walk.specs.Readings.{reader, walked, after_steps, at_end_of}
use Rattle.walk.specs.declared.Walk.{Walk}
use Rattle.text.specs.Prelude.{Some, None}
use Rattle.reader.specs.Reader.{reader_at, handed_out}
use Rattle.watch_text.specs.Watch.{WatchReading, watcher, risen}
use Rattle.listing_text.specs.Listing.{listed, listing_text_of}

-- So it is for every log that a machine can hold.
pub record Walks : Type 0 where
  -- k steps of a fresh walk read the first k lines of the log: every line once, in order, and then it is done.
  pub fresh_reads : (log : List ℕ) → length log ≤ largest → (k : ℕ) → walked k log fresh ≡ take k (readings reader log)
  -- After every step of a fresh walk its report is the report of the lines read so far, accepted or not.
  pub fresh_report : (log : List ℕ) → length log ≤ largest → (k : ℕ) →
      (after_steps k log fresh).report ≡ report_made (report_of (take k (readings reader log)))
  -- Any walk, built by hand too, is done at or past the log's end, at the largest line number, and where one of the
  -- report's fifteen counts is at its largest (`is_done`); that changes nothing.
  pub done : (log : List ℕ) (w : Walk) → is_done log w ≡ true → step_of log w ≡ record { walk = w; taken = None }
  -- Everywhere else it reads the line at its place.
  pub reads : (log : List ℕ) (w : Walk) → is_done log w ≡ false →
      let part = (cut_at w.at.place log).line in
      (step_of log w).taken ≡ Some (part, read_line_of (bytes_of part log))
  -- The end of a walk is done, and is where any number of steps leads that is at least that of the log's bytes.
  pub end_done : (log : List ℕ) (w : Walk) → is_done log (at_end_of log w) ≡ true
  pub end_reached : (log : List ℕ) (w : Walk) (k : ℕ) → length log ≤ k → after_steps k log w ≡ at_end_of log w
  -- What the screen holds at line k + 1 is the walk's report there, and what it says was raised is what stands higher
  -- in that than in the report a step before.
  pub watch_rises : (log : List ℕ) → length log ≤ largest → (k : ℕ) (x : WatchReading) (later : List WatchReading) →
      drop k (readings watcher log) ≡ x ∷ later →
      x.held ≡ risen (figures_in (after_steps k log fresh).report) (figures_in (after_steps (k + 1) log fresh).report)
  -- What the functions of `LogReader` hand out, one after the other, are the readings of a fresh walk with their
  -- tables.
  pub reader_reads : (log : Bor (List ℕ)) → length (log.now) ≤ largest → (k : ℕ) →
      handed_out k (reader_at log start) no_tables ≡ take k (readings reader (log.now))
  -- The listing, its trailer's counts too, is over the steps of a fresh walk: of as many as there are lines, or of
  -- more.
  pub listing_of_steps : (log : List ℕ) → length log ≤ largest → (k : ℕ) → length (readings reader log) ≤ k →
      listing_text_of log ≡ listed (walked k log fresh)
