-- A line of the program `fields`, and the whole text.
use Rattle.std.specs.Prelude.{◌∷◌, ◌++◌}
use Rattle.text.specs.Prelude.{ℕ, code, List, [], Res, ok, no, pick, place_of, placed, ◌=?◌, LF, padded}
use Rattle.text.specs.declared.refusal.Refusal.{Refusal}
use Rattle.records.specs.Record.{record_table, record_book, accepted_as}
use Rattle.records.specs.declared.Record.{Record}
use Rattle.record_print.specs.Printed.{record_piece}
use Rattle.igc_log.specs.Log.{readings}
use Rattle.igc_log.specs.Fold.{texts}
use Rattle.held.specs.declared.tables.Tables.{Tables}
use Rattle.walk.specs.Readings.{LineReading, reader}
use Rattle.listing_text.specs.Line.{head_text}
use Rattle.piece_text.specs.Piece.{byte_shown}
use Rattle.record_text.specs.Record.{record_shown}

-- `y` or `n` for by the book; a line answered 12 has no verdict.
unfoldable pub book_shown : Record → List ℕ
book_shown r = pick (accepted_as r =? 0) (pick (record_book r) (byte_shown (code "y")) (byte_shown (code "n"))) []

-- ` =` directly followed by the record as printed.
unfoldable pub printed_shown : List ℕ → List ℕ
printed_shown printed = (code " " ∷ []) ++ ((code "=" ∷ []) ++ printed)

-- What is seen of an accepted line s: its fields, the verdict, and the record as printed.
unfoldable pub seen : Record → Tables → List ℕ → List ℕ → List ℕ
seen r h names s =
    record_shown r (record_table r s) h names s
    ++ (book_shown r ++ printed_shown (record_piece r (record_table r s) s))

-- `@` and the place of the byte to look at, where a refusal has one.
unfoldable pub place_shown : Refusal → List ℕ
place_shown n = placed (λ place. (code "@" ∷ []) ++ padded 1 place) [] (place_of n)

-- A refused line ends with its answer and the place.
unfoldable pub fields_shown : Res Record → Tables → List ℕ → List ℕ → List ℕ
fields_shown (ok r) h names s = seen r h names s
fields_shown (no n) h names s = place_shown n

-- Line n with the text s, answered m, at which h is in force: number, letter and answer as in the listing, then its
-- fields.
unfoldable pub fields_line : ℕ → List ℕ → Res Record → Tables → List ℕ → List ℕ
fields_line n s m h names = head_text n s m ++ (fields_shown m h names s ++ (LF ∷ []))

-- The line of a reading, with the names asked for.
unfoldable pub fields_of : List ℕ → LineReading → List ℕ
fields_of names x = fields_line x.number x.line x.answer x.held names

-- What is shown of a log: a line for each reading of a fresh walk.
unfoldable pub fields_text_of : List ℕ → List ℕ → List ℕ
fields_text_of names log = texts (fields_of names) (readings reader log)
