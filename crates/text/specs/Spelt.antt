-- A text as the bytes of its ASCII characters, so that words can be written as they stand.
use Rattle.std.specs.Prelude.{ℕ, zero, suc, ◌+◌, List, [], ◌∷◌}
use Prim.Native.Char.{code}
use Prim.Native.String.{String, char_at, len}

-- The characters of a text from a place on, as bytes.
unfoldable pub spelt_from : ℕ → ℕ → String → List ℕ
spelt_from zero i s = []
spelt_from (suc k) i s = code (char_at s i) ∷ spelt_from k (i + 1) s

-- The bytes of a text.
unfoldable pub spelt : String → List ℕ
spelt s = spelt_from (len s) 0 s
