-- One step of a walk.
use Rattle.text.specs.Prelude.{ℕ, Bool, List, length, Option, Some, None, pick, ◌≤?◌, ◌∨?◌, largest}
use Rattle.part.specs.Part.{bytes_of}
use Rattle.records.specs.Record.{read_line_of}
use Rattle.held.specs.Tables.{no_tables, tables_after}
use Rattle.report.specs.Figures.{empty}
use Rattle.report.specs.Report.{is_full_of, figures_in, report_made, report_after}
use Rattle.cursor.specs.Cursor.{start, next_of}
use Rattle.cursor.specs.declared.Cursor.{Cursor}
use Rattle.igc_log.specs.declared.Cut.{Cut}
use Rattle.walk.specs.declared.{Walk.Walk, Step.Step}

-- Place 0, line number 0, no table of either letter, and the report of no lines.
unfoldable pub fresh : Walk
fresh = record { at = start; held = no_tables; report = report_made empty }

-- The line that comes next; where a count of the report is at its largest there is none.
unfoldable pub next_in : List ℕ → Walk → Option (Cut × Cursor)
next_in s w = pick (is_full_of (figures_in w.report)) None (next_of s w.at)

-- A step to the line that comes next: I and J lines set or spoil their tables, and the report takes every line,
-- accepted or not. Done changes nothing.
unfoldable pub step_to : List ℕ → Walk → Option (Cut × Cursor) → Step
step_to s w (Some (cut, after)) = record {
  taken = Some (cut.line, (read_line_of (bytes_of cut.line s)));
  walk = record {
    at = after;
    held = tables_after w.held (bytes_of cut.line s);
    report = report_after w.report w.at.place (read_line_of (bytes_of cut.line s));
  };
}
step_to s w None = record { taken = None; walk = w }

-- One step from where the walk stands.
unfoldable pub step_of : List ℕ → Walk → Step
step_of s w = step_to s w (next_in s w)

-- Where a walk is done: at or past the log's end; at the largest line number; and where a count of its report is at its
-- largest, of lines, of accepted B lines or of an answer.
unfoldable pub is_done : List ℕ → Walk → Bool
is_done s w = (length s ≤? w.at.place) ∨? (largest ≤? w.at.number) ∨? is_full_of (figures_in w.report)
