-- A lines: the recorder's maker and number.
use Rattle.text.specs.Prelude.{None, Option, Some}
use Rattle.std.specs.Prelude.{◌+◌, ◌∷◌, ◌++◌}
use Rattle.text.specs.Prelude.{ℕ, code, Bool, List, [], length, Res, ok, bind, guard, pick, ◌≤?◌}
use Rattle.text.specs.Prelude.{◌=?◌, ◌∧?◌, byte, cut, all_digits_of}
use Rattle.part.specs.Part.{name_from, part_text, maybe_text, part_bytes, maybe_bytes}
use Rattle.text.specs.declared.refusal.Refusal.TheVariants.{Syntax, NotAscii}
use Rattle.part.specs.declared.{Part.Part}
use Rattle.field.specs.Field.{ascii_in, mnemonic_text}
use Rattle.field.specs.declared.Mnemonic.{Mnemonic}
use Rattle.manufacturer.specs.Maker.{letter_maker, triple_maker, triple_of}
use Rattle.manufacturer.specs.declared.{Manufacturer.Manufacturer}
use Rattle.a_record.specs.declared.{ARecord.ARecord}

-- A record of its three parts.
unfoldable pub a_new : Manufacturer → Part → Option Part → ARecord
a_new maker id rest = record { manufacturer = maker; unique_id = id; id_extension = rest }

-- A maker, an id of w bytes from column a on, and the rest behind it; an empty rest is none.
unfoldable pub a_of : List ℕ → Manufacturer → ℕ → ℕ → ARecord
a_of s maker a w = a_new maker (record { start = a; len = w }) (name_from (a + w) s)

-- The three bytes 1-4.
abbrev pub triple : List ℕ → Mnemonic
triple s = record { 0 = byte 1 s; 1 = byte 2 s; 2 = byte 3 s }

-- Columns 2-7 are digits: the letter form.
unfoldable pub letter_form : List ℕ → Bool
letter_form s = all_digits_of (cut 2 7 s)

-- At least 9 bytes, and 4-9 digits: the long form.
unfoldable pub long_form : List ℕ → Bool
long_form s = (9 ≤? length s) ∧? all_digits_of (cut 4 9 s)

-- The forms with a triple: 0-4 ASCII (2), id 4-9, rest from 9; else 0-7 ASCII (2), id 4-7, rest from 7.
unfoldable pub read_triple : List ℕ → Res ARecord
read_triple s =
    pick (long_form s)
    (ascii_in (cut 0 4 s) (ok (a_of s (triple_maker (triple s)) 4 5)))
    (ascii_in (cut 0 7 s) (ok (a_of s (triple_maker (triple s)) 4 3)))

-- Under 7 bytes 1; a first byte other than A 1; the letter form: column 1 ASCII (2), maker by letter, id 2-7, rest from
-- 7; else a triple.
unfoldable pub read_a : List ℕ → Res ARecord
read_a s =
    guard (7 ≤? length s) Syntax
    (guard (byte 0 s =? code "A") Syntax
    (pick (letter_form s)
    (guard (byte 1 s ≤? 127) NotAscii (ok (a_of s (letter_maker (byte 1 s)) 2 5)))
    (read_triple s)))

-- A maker prints its triple; one that has none prints nothing.
unfoldable pub triple_text : Option Mnemonic → List ℕ
triple_text None = []
triple_text (Some t) = mnemonic_text t

-- The letter, the triple, id and rest.
unfoldable pub a_body : ARecord → List ℕ → List ℕ → List ℕ
a_body r id rest = (code "A" ∷ []) ++ (triple_text (triple_of r.manufacturer) ++ (id ++ rest))

-- The same with the parts that the line has; one that lies outside is left out.
abbrev pub a_piece : ARecord → List ℕ → List ℕ
a_piece r s = a_body r (part_bytes r.unique_id s) (maybe_bytes r.id_extension s)

-- The text of a record beside its line; 9 where a part lies outside.
unfoldable pub a_text : ARecord → List ℕ → Res (List ℕ)
a_text r s =
    bind (part_text r.unique_id s) (λ id.
    bind (maybe_text r.id_extension s) (λ rest.
    ok (a_body r id rest)))
