-- What every field is read by: its length, ASCII, and its columns.
use Rattle.std.specs.Prelude.{◌∷◌, ◌++◌}
use Rattle.text.specs.Prelude.{ℕ, Bool, true, List, [], length, Res, guard, ◌≤?◌, ◌=?◌}
use Rattle.text.specs.Prelude.{◌∧?◌}
use Rattle.text.specs.declared.refusal.Refusal.TheVariants.{NotAscii, WrongLength}
use Rattle.field.specs.declared.Mnemonic.{Mnemonic}

-- Every byte is below 128.
unfoldable pub is_ascii_of : List ℕ → Bool
is_ascii_of [] = true
is_ascii_of (b ∷ s) = (b ≤? 127) ∧? is_ascii_of s

-- A text of n bytes and no other length, 7 else.
unfoldable pub sized : {A : Type 0} → ℕ → (List ℕ → Res A) → List ℕ → Res A
sized n read s = guard (length s =? n) WrongLength (read s)

-- What is read where a text is ASCII, 2 else.
unfoldable pub ascii_in : {A : Type 0} → List ℕ → Res A → Res A
ascii_in t r = guard (is_ascii_of t) NotAscii r

-- A text that is ASCII itself.
unfoldable pub ascii : {A : Type 0} → (List ℕ → Res A) → List ℕ → Res A
ascii read s = ascii_in s (read s)

-- A field reader checks length (7), then ASCII (2), then reads.
unfoldable pub field : {A : Type 0} → ℕ → (List ℕ → Res A) → List ℕ → Res A
field n read s = sized n (ascii read) s

-- The three bytes of a mnemonic.
unfoldable pub mnemonic_text : Mnemonic → List ℕ
mnemonic_text m = (m.0 ∷ []) ++ ((m.1 ∷ []) ++ (m.2 ∷ []))
