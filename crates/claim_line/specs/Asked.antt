-- What a record claim asks of one line.
use Rattle.b_record.specs.declared.BRecord.{BRecord}
use Rattle.text.specs.Prelude.{None, Option, Some}
use Rattle.text.specs.Prelude.{ℕ, code, Bool, true, List, length, Res, ok, no, ◌≤?◌, ◌=?◌, begins}
use Rattle.part.specs.Part.{part_bytes}
use Rattle.time.specs.Time.{seconds_of_lem}
use Rattle.records.specs.Record.{read_line_of, record_book, answered, answer_fix}
use Rattle.records.specs.declared.{Record.Record}
use Rattle.igc_log.specs.Line.{cut_at}
use Rattle.claim_line.specs.declared.{Asked.Asked, AskedAt.AskedAt}

-- Its answer is 0; 12 is not accepted here.
unfoldable pub is_accepted_of : Res Record → Bool
is_accepted_of m = answered m =? 0

-- What was accepted is by the book.
unfoldable pub is_book_of : Res Record → Bool
is_book_of (ok r) = record_book r
is_book_of (no n) = true

-- The seconds since midnight of a fix, if there is one.
unfoldable pub second_in_of : Option BRecord → Option ℕ
second_in_of None = None
second_in_of (Some b) = Some (seconds_of_lem b.timestamp)

-- What is asked of a line with that text and that answer.
unfoldable pub asked_of : List ℕ → Res Record → Asked
asked_of line m = record {
  a = begins (code "A") line;
  i = begins (code "I") line;
  j = begins (code "J") line;
  b = begins (code "B") line;
  short = length line ≤? 76;
  accepted = is_accepted_of m;
  book = is_book_of m;
  second = second_in_of (answer_fix m);
}

-- What is asked of the line that is cut at a place, and the place after it.
unfoldable pub asked_at_of : ℕ → List ℕ → AskedAt
asked_at_of at s = record {
  asked = asked_of (part_bytes (cut_at at s).line s) (read_line_of (part_bytes (cut_at at s).line s));
  next = (cut_at at s).next;
}
