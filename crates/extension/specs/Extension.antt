-- One definition of an extension: SSEEMMM.
use Rattle.std.specs.Prelude.{◌+◌, ◌++◌}
use Rattle.text.specs.Prelude.{ℕ, List, length, Res, ok, bind, guard, ◌≤?◌, ◌=?◌, ◌∧?◌, byte, columns}
use Rattle.text.specs.Prelude.{read_nat_of, padded}
use Rattle.text.specs.declared.refusal.Refusal.TheVariants.{Syntax, BadExtension}
use Rattle.field.specs.Field.{mnemonic_text}
use Rattle.field.specs.declared.Mnemonic.{Mnemonic}
use Rattle.extension.specs.declared.{Extension.Extension}

-- Start, end, end before start 5, three-byte mnemonic.
unfoldable pub read_definition : List ℕ → Res Extension
read_definition s =
    bind (columns 0 2 (read_nat_of 255) s) (λ start.
    bind (columns 2 4 (read_nat_of 255) s) (λ end.
    guard (start ≤? end) BadExtension
    (ok (record {
      start_byte = start;
      end_byte = end;
      mnemonic = record { 0 = byte 4 s; 1 = byte 5 s; 2 = byte 6 s };
    }))))

-- One definition by itself: a length other than 7 is 1, and there is no ASCII test.
unfoldable pub read_extension : List ℕ → Res Extension
read_extension s = guard (length s =? 7) Syntax (read_definition s)

-- Start above 2 and end above start; 5 else.
unfoldable pub new_extension : Mnemonic → ℕ → ℕ → Res Extension
new_extension m start end =
    guard ((3 ≤? start) ∧? (start + 1 ≤? end)) BadExtension
    (ok (record { start_byte = start; end_byte = end; mnemonic = m }))

-- Start and end in width 2, and the mnemonic.
unfoldable pub extension_text : Extension → List ℕ
extension_text e = padded 2 e.start_byte ++ (padded 2 e.end_byte ++ mnemonic_text e.mnemonic)
