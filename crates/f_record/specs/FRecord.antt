-- F lines: the satellites from a time on.
use Rattle.std.specs.Prelude.{◌∷◌, ◌++◌}
use Rattle.text.specs.Prelude.{ℕ, code, Bool, List, [], length, drop, Res, ok, bind, guard, ◌≤?◌}
use Rattle.text.specs.Prelude.{columns}
use Rattle.text.specs.declared.refusal.Refusal.TheVariants.{Syntax}
use Rattle.part.specs.Part.{rest_from, part_text, part_bytes}
use Rattle.field.specs.Field.{ascii}
use Rattle.time.specs.Time.{read_time_of, time_text, time_book}
use Rattle.satellites.specs.Satellites.{in_pairs, read_satellites}
use Rattle.f_record.specs.declared.{FRecord.FRecord}

-- Time 1-7, and the list.
unfoldable pub read_heard : List ℕ → Res FRecord
read_heard s =
    bind (columns 1 7 read_time_of s) (λ time.
    bind (columns 7 (length s) read_satellites s) (λ heard.
    ok (record { time = time; list = rest_from 7 s; satellites = heard })))

-- Under 7 bytes 1; a list of odd length 1; the whole line ASCII (2); then the time and the list.
unfoldable pub read_f : List ℕ → Res FRecord
read_f s = guard (7 ≤? length s) Syntax (guard (in_pairs (drop 7 s)) Syntax (ascii read_heard s))

-- The letter, the time, the list.
unfoldable pub f_body : FRecord → List ℕ → List ℕ
f_body r list = (code "F" ∷ []) ++ (time_text r.time ++ list)

-- The same with the part that the line has; one that lies outside is left out.
abbrev pub f_piece : FRecord → List ℕ → List ℕ
f_piece r s = f_body r (part_bytes r.list s)

-- The text of a record beside its line; 9 where the list lies outside.
unfoldable pub f_text : FRecord → List ℕ → Res (List ℕ)
f_text r s = bind (part_text r.list s) (λ list. ok (f_body r list))

-- By the book: its time is.
unfoldable pub f_book : FRecord → Bool
f_book r = time_book r.time
