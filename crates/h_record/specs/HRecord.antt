-- H lines: headers.
use Rattle.part.specs.declared.Part.{Part}
use Rattle.text.specs.Prelude.{None, Option, Some}
use Rattle.std.specs.Prelude.{Bool, eqb, ◌+◌, ◌-◌, ◌/◌, ◌%◌, ◌∷◌, ◌++◌}
use Rattle.text.specs.Prelude.{ℕ, suc, code, List, [], length, drop, Res, ok, bind}
use Rattle.text.specs.Prelude.{guard, pick, ◌≤?◌, ◌=?◌, byte, cut}
use Rattle.part.specs.Part.{rest_from, part_text, maybe_text, part_bytes, maybe_bytes}
use Rattle.text.specs.declared.refusal.Refusal.TheVariants.{Syntax}
use Rattle.field.specs.Field.{ascii_in}
use Rattle.h_record.specs.declared.{DataSource.DataSource, HRecord.HRecord}
use Rattle.h_record.specs.declared.DataSource.TheVariants.{FVU, OfficialObserver, Pilot, Unrecognized}

-- The byte of a source.
unfoldable pub source_byte : DataSource → ℕ
source_byte FVU = code "F"
source_byte OfficialObserver = code "O"
source_byte Pilot = code "P"
source_byte (Unrecognized b) = b

-- The source of a byte.
unfoldable pub source_of : ℕ → DataSource
source_of b =
    pick (b =? source_byte FVU) FVU
    (pick (b =? source_byte OfficialObserver) OfficialObserver
    (pick (b =? source_byte Pilot) Pilot
    (Unrecognized b)))

-- A byte that is a colon.
abbrev pub is_colon : ℕ → Bool
is_colon b = eqb b (code ":")

-- The place of the first colon, or the length where there is none.
unfoldable pub colon_in : List ℕ → ℕ
colon_in [] = 0
colon_in (b ∷ s) = pick (b =? code ":") 0 (suc (colon_in s))

-- A first colon from column 5 on, at c, parts name and data; with none there is no name.
unfoldable pub named : List ℕ → ℕ → HRecord
named s c =
    pick (c =? length s)
    (record {
      data_source = source_of (byte 1 s);
      mnemonic = record { start = 2; len = 3 };
      friendly_name = None;
      «data» = rest_from 5 s;
    })
    (record {
      data_source = source_of (byte 1 s);
      mnemonic = record { start = 2; len = 3 };
      friendly_name = Some (record { start = 5; len = c - 5 });
      «data» = rest_from (c + 1) s;
    })

-- Under 6 bytes 1; a first byte other than H 1; 0-5 ASCII (2); source, mnemonic 2-5, name and data.
unfoldable pub read_h : List ℕ → Res HRecord
read_h s =
    guard (6 ≤? length s) Syntax
    (guard (byte 0 s =? code "H") Syntax
    (ascii_in (cut 0 5 s)
    (ok (named s (5 + colon_in (drop 5 s))))))

-- A byte, or from 128 on its two bytes in UTF-8.
unfoldable pub char_text : ℕ → List ℕ
char_text b = pick (b ≤? 127) (b ∷ []) (((192 + b / 64) ∷ []) ++ ((128 + b % 64) ∷ []))

-- A name with its colon; nothing where there is no name.
unfoldable pub name_text : Option Part → List ℕ → List ℕ
name_text None t = []
name_text (Some p) t = t ++ (code ":" ∷ [])

-- The name with its colon, and the data.
unfoldable pub data_text : HRecord → List ℕ → List ℕ → List ℕ
data_text r n d = name_text r.friendly_name n ++ d

-- The letter, source, mnemonic, name and data.
unfoldable pub h_body : HRecord → List ℕ → List ℕ → List ℕ → List ℕ
h_body r m n d = (code "H" ∷ []) ++ (char_text (source_byte r.data_source) ++ (m ++ data_text r n d))

-- The same with the parts that the line has; one that lies outside is left out.
abbrev pub h_piece : HRecord → List ℕ → List ℕ
h_piece r s =
    h_body r (part_bytes r.mnemonic s) (maybe_bytes r.friendly_name s) (part_bytes r.«data» s)

-- The text of a record beside its line; 9 where a part lies outside.
unfoldable pub h_text : HRecord → List ℕ → Res (List ℕ)
h_text r s =
    bind (part_text r.mnemonic s) (λ m.
    bind (maybe_text r.friendly_name s) (λ n.
    bind (part_text r.«data» s) (λ d.
    ok (h_body r m n d))))
