-- K lines: data beside the fixes, in columns that the J line names.
use Rattle.std.specs.Prelude.{◌∷◌, ◌++◌}
use Rattle.text.specs.Prelude.{code, Bool, List, ℕ, [], length, Res, ok, bind, guard, ◌≤?◌, ◌=?◌}
use Rattle.text.specs.Prelude.{byte, columns}
use Rattle.part.specs.Part.{rest_from, part_text, part_bytes}
use Rattle.text.specs.declared.refusal.Refusal.TheVariants.{Syntax}
use Rattle.field.specs.Field.{ascii}
use Rattle.time.specs.Time.{read_time_of, time_text, time_book}
use Rattle.k_record.specs.declared.{KRecord.KRecord}

-- Time 1-7, and the rest.
unfoldable pub read_timed : List ℕ → Res KRecord
read_timed s = bind (columns 1 7 read_time_of s) (λ time. ok (record { time = time; rest = rest_from 7 s }))

-- Under 7 bytes 1; a first byte other than K 1; the whole line ASCII (2); then the time.
unfoldable pub read_k : List ℕ → Res KRecord
read_k s = guard (7 ≤? length s) Syntax (guard (byte 0 s =? code "K") Syntax (ascii read_timed s))

-- The letter, the time, the rest.
unfoldable pub k_body : KRecord → List ℕ → List ℕ
k_body r rest = (code "K" ∷ []) ++ (time_text r.time ++ rest)

-- The same with the parts that the line has; one that lies outside is left out.
abbrev pub k_piece : KRecord → List ℕ → List ℕ
k_piece r s = k_body r (part_bytes r.rest s)

-- The text of a record beside its line; 9 where the rest lies outside.
unfoldable pub k_text : KRecord → List ℕ → Res (List ℕ)
k_text r s = bind (part_text r.rest s) (λ rest. ok (k_body r rest))

-- By the book: its time is.
unfoldable pub k_book : KRecord → Bool
k_book r = time_book r.time
