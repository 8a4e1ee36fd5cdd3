-- A text that is written by calls of `write`.
use Rattle.std.specs.Prelude.{◌≡◌, Result, IsOk}
use Rattle.text.specs.Prelude.{ℕ, List, length}
use Rattle.files.specs.declared.output.WriteError.{WriteError}

-- Nothing is always written.
abbrev pub WrittenOf : List ℕ → Result Unit WriteError → Type 0
WrittenOf text r = length text ≡ 0 → IsOk r
