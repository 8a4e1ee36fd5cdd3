-- E lines: events of the flight.
use Rattle.std.specs.Prelude.{◌∷◌, ◌++◌}
use Rattle.text.specs.Prelude.{ℕ, code, Bool, List, [], length, Res, ok, bind, guard, ◌≤?◌, ◌=?◌}
use Rattle.text.specs.Prelude.{byte, cut, columns}
use Rattle.text.specs.declared.refusal.Refusal.TheVariants.{Syntax}
use Rattle.part.specs.Part.{name_from, part_text, maybe_text, part_bytes, maybe_bytes}
use Rattle.field.specs.Field.{ascii_in}
use Rattle.time.specs.Time.{read_time_of, time_text, time_book}
use Rattle.e_record.specs.declared.{ERecord.ERecord}

-- Under 10 bytes 1; a first byte other than E 1; 0-10 ASCII (2); time 1-7, code 7-10, text; an empty text is none.
unfoldable pub read_e : List ℕ → Res ERecord
read_e s =
    guard (10 ≤? length s) Syntax
    (guard (byte 0 s =? code "E") Syntax
    (ascii_in (cut 0 10 s)
    (bind (columns 1 7 read_time_of s) (λ time.
    ok (record { time = time; mnemonic = record { start = 7; len = 3 }; text = name_from 10 s })))))

-- The letter, the time, the code, the text.
unfoldable pub e_body : ERecord → List ℕ → List ℕ → List ℕ
e_body r mnemonic text = (code "E" ∷ []) ++ (time_text r.time ++ (mnemonic ++ text))

-- The same with the parts that the line has; one that lies outside is left out.
abbrev pub e_piece : ERecord → List ℕ → List ℕ
e_piece r s = e_body r (part_bytes r.mnemonic s) (maybe_bytes r.text s)

-- The text of a record beside its line; 9 where a part lies outside.
unfoldable pub e_text : ERecord → List ℕ → Res (List ℕ)
e_text r s =
    bind (part_text r.mnemonic s) (λ mnemonic.
    bind (maybe_text r.text s) (λ text.
    ok (e_body r mnemonic text)))

-- By the book: its time is.
unfoldable pub e_book : ERecord → Bool
e_book r = time_book r.time
