-- L lines: remarks, and who or what wrote them.
use Rattle.std.specs.Prelude.{◌∷◌, ◌++◌}
use Rattle.text.specs.Prelude.{ℕ, code, List, [], length, Res, ok, bind, guard, ◌≤?◌, ◌=?◌}
use Rattle.text.specs.Prelude.{byte, cut}
use Rattle.text.specs.declared.refusal.Refusal.TheVariants.{Syntax}
use Rattle.part.specs.Part.{name_from, part_text, maybe_text, part_bytes, maybe_bytes}
use Rattle.field.specs.Field.{ascii_in}
use Rattle.l_record.specs.declared.{LRecord.LRecord}

-- Under 4 bytes 1; a first byte other than L 1; 0-4 ASCII (2); source 1-4, text; an empty text is none.
unfoldable pub read_l : List ℕ → Res LRecord
read_l s =
    guard (4 ≤? length s) Syntax
    (guard (byte 0 s =? code "L") Syntax
    (ascii_in (cut 0 4 s)
    (ok (record { source = record { start = 1; len = 3 }; text = name_from 4 s }))))

-- The letter, the source, the text.
unfoldable pub l_body : List ℕ → List ℕ → List ℕ
l_body source text = (code "L" ∷ []) ++ (source ++ text)

-- The same with the parts that the line has; one that lies outside is left out.
abbrev pub l_piece : LRecord → List ℕ → List ℕ
l_piece r s = l_body (part_bytes r.source s) (maybe_bytes r.text s)

-- The text of a record beside its line; 9 where a part lies outside.
unfoldable pub l_text : LRecord → List ℕ → Res (List ℕ)
l_text r s =
    bind (part_text r.source s) (λ source.
    bind (maybe_text r.text s) (λ text.
    ok (l_body source text)))
