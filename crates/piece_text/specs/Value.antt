-- Values of extensions on a B or a K line, looked up by name.
use Rattle.std.specs.Prelude.{◌∷◌, ◌++◌}
use Rattle.text.specs.Prelude.{ℕ, code, List, [], length, Res, ok, no, pick, number_of, ◌≤?◌, padded}
use Rattle.part.specs.declared.Part.{Part}
use Rattle.field.specs.Field.{mnemonic_text}
use Rattle.field.specs.declared.Mnemonic.{Mnemonic}
use Rattle.table.specs.Table.{defs_of}
use Rattle.extension.specs.declared.Extension.{Extension}
use Rattle.held.specs.Held.{look_up}
use Rattle.held.specs.declared.Held.{Held}
use Rattle.piece_text.specs.Piece.{place_text}

-- The answer 0 with `@` and the value's place behind it, or the refusal's number.
unfoldable pub found_text : Res Part → List ℕ
found_text (ok p) = (code "0" ∷ []) ++ ((code "@" ∷ []) ++ place_text p)
found_text (no n) = padded 1 (number_of n)

-- NAME=ANSWER, by lookup by name on a line with so many fixed columns and this rest.
unfoldable pub value_shown : ℕ → Held → Part → List ℕ → Mnemonic → List ℕ
value_shown base h rest s name =
    (code " " ∷ []) ++ (mnemonic_text name ++ ((code "=" ∷ []) ++ found_text (look_up base rest h name s)))

-- The names of definitions, in their order.
unfoldable pub names_of : List Extension → List Mnemonic
names_of [] = []
names_of (e ∷ es) = e.mnemonic ∷ names_of es

-- The names of the table in force.
unfoldable pub table_names : Held → List Mnemonic
table_names Held.Never = []
table_names Held.Spoiled = []
table_names (Held.Set t) = names_of (defs_of t)

-- Names of three bytes each; what is left over is no name.
unfoldable pub names_in : List ℕ → List Mnemonic
names_in [] = []
names_in (a ∷ []) = []
names_in (a ∷ (b ∷ [])) = []
names_in (a ∷ (b ∷ (c ∷ s))) = record { 0 = a; 1 = b; 2 = c } ∷ names_in s

-- The names given, or where there are none those of the table in force.
unfoldable pub asked_for : Held → List ℕ → List Mnemonic
asked_for h names = pick (3 ≤? length names) (names_in names) (table_names h)
