-- G lines: the recorder's signature, which others judge.
use Rattle.std.specs.Prelude.{◌∷◌, ◌++◌}
use Rattle.text.specs.Prelude.{ℕ, code, List, [], Res, ok, bind, guard, begins}
use Rattle.text.specs.declared.refusal.Refusal.TheVariants.{Syntax}
use Rattle.part.specs.Part.{rest_from, part_text, part_bytes}
use Rattle.g_record.specs.declared.{GRecord.GRecord}

-- An empty line, or another first byte than G, is 1; then the rest, also where it is empty.
unfoldable pub read_g : List ℕ → Res GRecord
read_g s = guard (begins (code "G") s) Syntax (ok (record { «data» = rest_from 1 s }))

-- The letter, the rest.
unfoldable pub g_body : List ℕ → List ℕ
g_body rest = (code "G" ∷ []) ++ rest

-- The same with the part that the line has; one that lies outside is left out.
abbrev pub g_piece : GRecord → List ℕ → List ℕ
g_piece r s = g_body (part_bytes r.«data» s)

-- The text of a record beside its line; 9 where the rest lies outside.
unfoldable pub g_text : GRecord → List ℕ → Res (List ℕ)
g_text r s = bind (part_text r.«data» s) (λ rest. ok (g_body rest))
