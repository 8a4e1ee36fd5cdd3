-- A reader of a lent log, and what it shows at its place.
use Rattle.std.specs.Borrow.{Bor}
use Rattle.std.specs.Prelude.{◌∷◌}
use Rattle.text.specs.Prelude.{ℕ, zero, suc, List, [], Option, Some, None}
use Rattle.part.specs.Part.{bytes_of, find_part, shown}
use Rattle.part.specs.declared.Part.{Part}
use Rattle.igc_log.specs.Line.{cut_at}
use Rattle.records.specs.Record.{read_line_of}
use Rattle.held.specs.Tables.{tables_after}
use Rattle.held.specs.declared.tables.Tables.{Tables}
use Rattle.cursor.specs.Cursor.{next_of}
use Rattle.walk.specs.Readings.{LineReading}
use Rattle.cursor.specs.declared.Cursor.{Cursor}
use Rattle.igc_log.specs.declared.Cut.{Cut}
use Rattle.reader.specs.declared.LogReader.{LogReader}

-- A reader of the lent log at a cursor of the walk.
abbrev pub reader_at : Bor (List ℕ) → Cursor → LogReader
reader_at log c = record { log = log; place = c.place; number = c.number }

-- The walk's cursor that a reader carries.
abbrev pub cursor_of : LogReader → Cursor
cursor_of r = record { place = r.place; number = r.number }

-- The line at a place, as the part of the log that is shown; past the log's end it is empty.
abbrev pub part_at : ℕ → List ℕ → Part
part_at place s = shown (find_part (cut_at place s).line s)

-- The text of that line.
abbrev pub text_at : ℕ → List ℕ → List ℕ
text_at place s = bytes_of (part_at place s) s

-- ---- what is handed out

-- The reading of the line that `next_line` found, in front of what is read from the cursor after it.
unfoldable pub handed_by : List ℕ → Tables → ℕ → Option (Cut × Cursor) → (Cursor → List LineReading) → List LineReading
handed_by s h place None later = []
handed_by s h place (Some (cut, after)) later =
    record {
      number = after.number;
      place = cut.line.start;
      line = text_at place s;
      answer = read_line_of (text_at place s);
      held = tables_after h (text_at place s);
    }
    ∷ later after

-- What k turns of the desk hand out, from a reader and what is held there: `next_line` finds the line, `line` shows its
-- text, to which `Record::parse_line` answers, `tables` says what is held after it, and `moved` goes on.
unfoldable pub handed_out : ℕ → LogReader → Tables → List LineReading
handed_out zero r h = []
handed_out (suc k) r h =
    handed_by (r.log.now) h r.place (next_of (r.log.now) (cursor_of r))
    (λ after. handed_out k (reader_at r.log after) (tables_after h (text_at r.place (r.log.now))))
