-- Counts by answer number.
use Rattle.std.specs.Prelude.{◌+◌, ◌∷◌}
use Rattle.text.specs.Prelude.{ℕ, zero, suc, Bool, false, List, [], ◌≤?◌, ◌∨?◌, largest}

-- The answers to a line have the numbers 0 to 12; lines with another, built by hand, are in no count of these.
abbrev pub numbers : ℕ
numbers = 13

-- f of each of the k numbers from i on.
unfoldable pub from : ℕ → ℕ → (ℕ → ℕ) → List ℕ
from zero i f = []
from (suc k) i f = f i ∷ from k (i + 1) f

-- f of each answer number.
unfoldable pub by_number : (ℕ → ℕ) → List ℕ
by_number f = from numbers 0 f

-- The sum of some counts.
unfoldable pub summed : List ℕ → ℕ
summed [] = 0
summed (n ∷ ns) = n + summed ns

-- Each count of the one with its count of the other.
unfoldable pub added : List ℕ → List ℕ → List ℕ
added [] ns = ns
added (m ∷ ms) [] = m ∷ ms
added (m ∷ ms) (n ∷ ns) = (m + n) ∷ added ms ns

-- One of some counts is at its largest.
unfoldable pub one_full_of : List ℕ → Bool
one_full_of [] = false
one_full_of (n ∷ ns) = (largest ≤? n) ∨? one_full_of ns
