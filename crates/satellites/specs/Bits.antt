-- A set of numbers, given by a test, and as the bits of a word.
use Rattle.std.specs.Prelude.{◌+◌, ◌*◌, ◌/◌, ◌%◌, ◌^◌}
use Rattle.text.specs.Prelude.{ℕ, zero, suc, Bool, true, false, ◌=?◌}

-- 1 for a test that holds, 0 for one that does not.
abbrev pub bit : Bool → ℕ
bit true = 1
bit false = 0

-- Bit n of a word is set.
unfoldable pub has_bit : ℕ → ℕ → Bool
has_bit n w = w / 2 ^ n % 2 =? 1

-- The word of k bits in which those bits are set whose numbers pass the test.
unfoldable pub word : ℕ → (ℕ → Bool) → ℕ
word zero p = 0
word (suc k) p = bit (p k) * 2 ^ k + word k p

-- How many numbers below k pass the test.
unfoldable pub how_many : ℕ → (ℕ → Bool) → ℕ
how_many zero p = 0
how_many (suc k) p = bit (p k) + how_many k p
