-- The satellites that an F line lists, and how many of them are different.
use Rattle.std.specs.Prelude.{◌+◌, ◌-◌, ◌%◌, ◌≡◌, ◌∷◌}
use Rattle.text.specs.Prelude.{ℕ, Bool, false, List, [], length, Res, ok, bind, guard}
use Rattle.text.specs.Prelude.{pick, ◌≤?◌, ◌=?◌, ◌∨?◌, all_digits_of, first_other_of, value_from}
use Rattle.text.specs.declared.refusal.Refusal.TheVariants.{Syntax, UnreadableNumber}
use Rattle.satellites.specs.Bits.{has_bit, word, how_many}
use Rattle.satellites.specs.declared.{Satellites.Satellites}

-- ---- numbers in a row

-- The number n is one of ns.
unfoldable pub occurs : ℕ → List ℕ → Bool
occurs n [] = false
occurs n (m ∷ ns) = (n =? m) ∨? occurs n ns

-- How many different numbers ns has: one that comes again counts where it stands last.
unfoldable pub different : List ℕ → ℕ
different [] = 0
different (n ∷ ns) = pick (occurs n ns) 0 1 + different ns

-- ---- two digits a satellite

-- Two bytes a number, and none left over.
unfoldable pub in_pairs : List ℕ → Bool
in_pairs s = length s % 2 =? 0

-- The numbers of a list of digits.
unfoldable pub numbers : List ℕ → List ℕ
numbers [] = []
numbers (a ∷ []) = []
numbers (a ∷ (b ∷ s)) = value_from 0 (a ∷ (b ∷ [])) ∷ numbers s

-- An odd length is 1; then 3, at the first byte that is no digit, a sign too.
unfoldable pub read_numbers : List ℕ → Res (List ℕ)
read_numbers s =
    guard (in_pairs s) Syntax
    (guard (all_digits_of s) (UnreadableNumber (first_other_of s))
    (ok (numbers s)))

-- ---- sets of numbers below 128 in two words

-- The number n is in the set: bit n of the low word, and from 64 on bit n - 64 of the high one.
unfoldable pub has_number : ℕ → Satellites → Bool
has_number n s = pick (n ≤? 63) (has_bit n s.low) (has_bit (n - 64) s.high)

-- The set of the numbers that pass the test.
unfoldable pub words_of : (ℕ → Bool) → Satellites
words_of p = record { low = word 64 p; high = word 64 (λ n. p (64 + n)) }

-- The set of some numbers.
unfoldable pub set_of : List ℕ → Satellites
set_of ns = words_of (λ n. occurs n ns)

-- A set with the number n besides.
unfoldable pub with_number : ℕ → Satellites → Satellites
with_number n s = words_of (λ m. (m =? n) ∨? has_number m s)

-- How many numbers are in the set, those from 100 on with them.
unfoldable pub count_of : Satellites → ℕ
count_of s = how_many 128 (λ n. has_number n s)

-- ---- what is read of a list

-- The set of its numbers.
unfoldable pub read_satellites : List ℕ → Res Satellites
read_satellites s = bind (read_numbers s) (λ ns. ok (set_of ns))

-- r counts the set s. Of a set that was read from a list it is how many different numbers that has: a repeat counts
-- once.
pub record Counts (s : Satellites) (r : ℕ) : Type 0 where
  pub all : r ≡ count_of s
  pub read : (list : List ℕ) → read_satellites list ≡ ok s → r ≡ different (numbers list)
