-- What reaches a terminal.
use Rattle.text.specs.Prelude.{ℕ, code, pick, ◌≤?◌, ◌=?◌, ◌∧?◌, ◌∨?◌, LF}

-- LF and the characters of printable ASCII as they are, any other byte as `?`.
unfoldable pub visible : ℕ → ℕ
visible b = pick ((b =? LF) ∨? ((code " " ≤? b) ∧? (b ≤? code "~"))) b (code "?")
