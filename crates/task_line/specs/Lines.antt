-- What the lines of a log are to a task.
use Rattle.std.specs.Prelude.{◌≤◌, ◌<◌, ◌≡◌, ◌∷◌}
use Rattle.text.specs.Prelude.{ℕ, List, map, length, drop, ℤ, Res, ok, no}
use Rattle.part.specs.Part.{part_bytes}
use Rattle.c_turnpoint_record.specs.declared.CRecordTurnpoint.{CRecordTurnpoint}
use Rattle.records.specs.Record.{read_line_of}
use Rattle.records.specs.declared.Record.{Record}
use Rattle.igc_log.specs.Line.{cut_at}
use Rattle.igc_log.specs.Log.{readings}
use Rattle.walk.specs.Readings.{reader}
use Rattle.task_line.specs.declared.{Kind.Kind, Seen.Seen}

-- A record is a declaration with its count, a turnpoint, or another.
unfoldable pub record_kind : Record → Kind
record_kind (Record.CDeclaration r) = Kind.Declaration r.turnpoint_count
record_kind (Record.CTurnpoint r) = Kind.Point r
record_kind (Record.A r) = Kind.Other
record_kind (Record.B r) = Kind.Other
record_kind (Record.D r) = Kind.Other
record_kind (Record.E r) = Kind.Other
record_kind (Record.F r) = Kind.Other
record_kind (Record.G r) = Kind.Other
record_kind (Record.H r) = Kind.Other
record_kind Record.I = Kind.Other
record_kind Record.J = Kind.Other
record_kind (Record.K r) = Kind.Other
record_kind (Record.L r) = Kind.Other
record_kind (Record.Unrecognised p) = Kind.Other

-- A refused line is neither.
unfoldable pub answer_kind : Res Record → Kind
answer_kind (ok r) = record_kind r
answer_kind (no n) = Kind.Other

-- A line of a log, as a task sees it: an accepted declaration with its count, an accepted turnpoint with the line's
-- text, or any other line.
pub data TaskLine : Type 0 where
  declaration : ℤ → TaskLine
  point : CRecordTurnpoint → List ℕ → TaskLine
  other : TaskLine

-- The line of a kind that has that text.
unfoldable pub line_of : Kind → List ℕ → TaskLine
line_of (Kind.Declaration count) line = declaration count
line_of (Kind.Point r) line = point r line
line_of Kind.Other line = other

-- The lines of a log: what a fresh walk reads of it, in order.
unfoldable pub task_lines : List ℕ → List TaskLine
task_lines log = map (λ x. line_of (answer_kind x.answer) x.line) (readings reader log)

-- The line that is cut at a place, and what the answer to it is to a task.
unfoldable pub seen_at : ℕ → List ℕ → Seen
seen_at at log = record {
  kind = answer_kind (read_line_of (part_bytes (cut_at at log).line log));
  line = (cut_at at log).line;
  next = (cut_at at log).next;
}

-- What was seen at a place is that.
pub record Sees (log : List ℕ) (at : ℕ) (x : Seen) : Type 0 where
  pub seen : x ≡ seen_at at log
  -- Before the log's end the lines that are left are this one and then those from the next place on,
  pub first : at < length log →
      task_lines (drop at log) ≡ line_of x.kind (part_bytes x.line log) ∷ task_lines (drop x.next log)
  -- which lies behind this one, inside the log.
  pub next : at < length log → (at < x.next) × (x.next ≤ length log)
