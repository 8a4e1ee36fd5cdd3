-- What the program `fields` shows as printed is what `print_record` prints.
use Rattle.std.specs.Prelude.{◌≡◌, ◌∷◌, ◌++◌}
use Rattle.text.specs.Prelude.{ℕ, List, [], Res, ok, no, LF}
use Rattle.records.specs.Record.{read_line_of, record_table}
use Rattle.records.specs.declared.Record.{Record}
use Rattle.record_print.specs.Printed.{record_piece, reprinted}
use Rattle.igc_log.specs.Log.{readings}
use Rattle.igc_log.specs.Fold.{texts}
use Rattle.held.specs.declared.tables.Tables.{Tables}
use Rattle.walk.specs.Readings.{LineReading, reader}
use Rattle.listing_text.specs.Line.{head_text}
use Rattle.record_text.specs.Record.{record_shown}
use Rattle.fields_text.specs.Line.{book_shown, printed_shown, place_shown, fields_text_of}

-- The fields of an accepted line, its verdict and its text as printed; of a refused line the place.
unfoldable pub fields_as : Res Record → Res (List ℕ) → Tables → List ℕ → List ℕ → List ℕ
fields_as (ok r) (ok printed) h names s = record_shown r (record_table r s) h names s
    ++ (book_shown r ++ printed_shown printed)
fields_as (ok r) (no n) h names s = []
fields_as (no n) printed h names s = place_shown n

-- A line of `fields`, with the line read and printed again in it.
unfoldable pub line_as : List ℕ → LineReading → List ℕ
line_as names x =
    head_text x.number x.line x.answer
    ++ (fields_as x.answer (reprinted x.line) x.held names x.line ++ (LF ∷ []))

-- What `fields` shows of a log is what its records print.
pub record Shown : Type 0 where
  -- The piece of an accepted line's record is its text, as `print_record` writes it.
  pub piece : (s : List ℕ) (r : Record) → read_line_of s ≡ ok r → reprinted s ≡ ok (record_piece r (record_table r s) s)
  -- For every log and every list of names.
  pub fields : (names log : List ℕ) → fields_text_of names log ≡ texts (line_as names) (readings reader log)
