-- The body of I and J lines: a table of up to 99 definitions.
use Rattle.std.specs.Prelude.{◌+◌, ◌-◌, ◌*◌, ◌∷◌, ◌++◌}
use Rattle.text.specs.Prelude.{ℕ, zero, suc, code, Bool, List, [], length, take, replicate}
use Rattle.text.specs.Prelude.{Res, ok, bind, guard, ◌≤?◌, ◌=?◌, ◌∨?◌, byte, columns, read_nat_of, padded}
use Rattle.text.specs.declared.refusal.Refusal.TheVariants.{Syntax, BadExtension}
use Rattle.field.specs.Field.{ascii}
use Rattle.extension.specs.Extension.{read_extension, extension_text}
use Rattle.extension.specs.declared.Extension.{Extension}
use Rattle.table.specs.declared.{Table.Table}

-- The slot that holds no definition.
abbrev pub empty : Extension
empty = record { start_byte = 0; end_byte = 0; mnemonic = record { 0 = 0; 1 = 0; 2 = 0 } }

-- The table of some definitions: those, and then empty slots up to 99.
unfoldable pub table_of : List Extension → Table
table_of ds = record { defs = ds ++ replicate (99 - length ds) empty; count = length ds }

-- k definitions in turn, of seven characters each.
unfoldable pub read_defs : ℕ → List ℕ → Res (List Extension)
read_defs zero s = ok []
read_defs (suc k) s =
    bind (columns 0 7 read_extension s) (λ e.
    bind (columns 7 (length s) (read_defs k) s) (λ es.
    ok (e ∷ es)))

-- Count 1-3; length exactly 3 + 7 x count (1); then each definition in turn.
unfoldable pub read_body : List ℕ → Res (List Extension)
read_body s =
    bind (columns 1 3 (read_nat_of 255) s) (λ count.
    guard (length s =? 3 + 7 * count) Syntax
    (columns 3 (length s) (read_defs count) s))

-- I or J.
unfoldable pub is_table_of : ℕ → Bool
is_table_of b = (b =? code "I") ∨? (b =? code "J")

-- Under 3 bytes 1; a first byte other than I and J 1; ASCII (2); then the body.
unfoldable pub read_table : List ℕ → Res (List Extension)
read_table s = guard (3 ≤? length s) Syntax (guard (is_table_of (byte 0 s)) Syntax (ascii read_body s))

-- The definitions that a table holds.
unfoldable pub defs_of : Table → List Extension
defs_of t = take t.count t.defs

-- The texts of definitions, one after the other.
unfoldable pub defs_text : List Extension → List ℕ
defs_text [] = []
defs_text (e ∷ es) = extension_text e ++ defs_text es

-- I or J, the count in width 2, the definitions.
unfoldable pub table_body : ℕ → Table → List ℕ
table_body letter t = (letter ∷ []) ++ (padded 2 t.count ++ defs_text (defs_of t))

-- A count over 99 is 5.
unfoldable pub table_text : ℕ → Table → Res (List ℕ)
table_text letter t = guard (t.count ≤? 99) BadExtension (ok (table_body letter t))

-- The table of the definitions that were read.
unfoldable pub table_read : Res (List Extension) → Res Table
table_read m = bind m (λ ds. ok (table_of ds))
