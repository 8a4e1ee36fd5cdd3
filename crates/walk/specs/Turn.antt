-- A turn of a loop over a log.
use Rattle.text.specs.Prelude.{ℕ, List}
use Rattle.part.specs.Part.{part_bytes}
use Rattle.records.specs.Record.{read_line_of}
use Rattle.igc_log.specs.Line.{cut_at}
use Rattle.walk.specs.declared.turn.Got.{Got}

-- The line that is cut at a place, and the answer to it.
unfoldable pub got_at : ℕ → List ℕ → Got
got_at at s = record {
  line = (cut_at at s).line;
  next = (cut_at at s).next;
  reading = (read_line_of (part_bytes (cut_at at s).line s));
}
