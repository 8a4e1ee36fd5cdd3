-- Sets of numbers below 128 in two words.
use Rattle.text.specs.Prelude.{ℕ, ◌+◌, ◌-◌, ◌*◌, ◌%◌, ◌^◌, ◌≤◌, ◌<◌, ◌≡◌, Bool, false, ◌≤?◌, ◌=?◌}
use Rattle.text.proofs.Prelude.{arith, refl, sym, ap, ◌∙◌, first, second, yes≤, no≤, yes=, no=, is≤, isnt≤, is=}
use Rattle.text.proofs.Prelude.{by_test, never}
use mathlib.Core.Path.{ap₂}
use native.Mathlib.Nat.{mod-eq_of_lt, one-mul}
use lib.Pow.{shl_exact}
use lib.Bits.{bit_or}
use lib.Count.{ones}
use Rattle.satellites.specs.Bits.{has_bit, word}
use Rattle.satellites.specs.Satellites.{has_number, words_of, with_number, count_of}
use Rattle.satellites.specs.declared.Satellites.{Satellites}
use Rattle.satellites.proofs.Words.{Also, also_other, word_none, word_same, word_lt, word_of_bits, bit_past}
use Rattle.satellites.proofs.Words.{bit_of_word, or_word, ones_of_word, how_many_add}

-- ---- which of the two words

pub has_low : (n : ℕ) (s : Satellites) → n < 64 → has_number n s ≡ has_bit n s.low
unfolding has_number
has_low n s h = sym (first _ (yes≤ (omega arith)) refl)

pub has_high : (n m : ℕ) (s : Satellites) → n ≡ 64 + m → has_number n s ≡ has_bit m s.high
unfolding has_number
has_high n m s e = let z : n - 64 ≡ m = omega arith in sym (second _ (no≤ (omega arith)) (rw z))

-- from 128 on no number is in a set
pub has_past : (n : ℕ) (s : Satellites) → s.high < 2 ^ 64 → 128 ≤ n → has_number n s ≡ false
has_past n s fits h = has_high n (n - 64) s (omega arith) ∙ bit_past 64 (n - 64) s.high fits (omega arith)

-- ---- sets that a test gives

-- below 128 they have the numbers that pass it
pub has_words : (p : ℕ → Bool) (n : ℕ) → n < 128 → has_number n (words_of p) ≡ p n
unfolding words_of
has_words p n h =
    by_test (n ≤? 63)
    (λ e. let l = is≤ e in has_low n (words_of p) (omega arith) ∙ bit_of_word 64 p n (omega arith))
    (λ e. let l = isnt≤ e in let z : 64 + (n - 64) ≡ n = omega arith in
    has_high n (n - 64) (words_of p) (omega arith)
    ∙ bit_of_word 64 (λ k. p (64 + k)) (n - 64) (omega arith)
    ∙ ap p z)

-- and no other
pub has_words_past : (p : ℕ → Bool) (n : ℕ) → 128 ≤ n → has_number n (words_of p) ≡ false
unfolding words_of
has_words_past p n h = has_past n (words_of p) (word_lt 64 (λ k. p (64 + k))) h

-- tests that agree below 128 give the same set
pub words_same : (p q : ℕ → Bool) → ((n : ℕ) → n < 128 → p n ≡ q n) → words_of p ≡ words_of q
unfolding words_of
words_same p q h =
    rw (
      word_same 64 p q (λ n l. h n (omega arith)),
      word_same 64 (λ n. p (64 + n)) (λ n. q (64 + n)) (λ n l. h (64 + n) (omega arith)),
    )

pub words_none : words_of (λ n. false) ≡ record { low = 0; high = 0 }
unfolding words_of
words_none = rw (word_none 64)

-- ---- the two words that the code holds

-- 1 << n loses nothing
pub shifted : (n : ℕ) → n < 64 → 1 * 2 ^ n % 2 ^ 64 ≡ 2 ^ n
shifted n h = shl_exact 1 n 64 (omega arith) (omega arith) ∙ one-mul (2 ^ n)

-- two numbers that are counted from k on are equal where they are
=?-from : (k m n : ℕ) → (k + m =? k + n) ≡ (m =? n)
=?-from k m n =
    by_test (m =? n)
    (λ e. let z = is= e in yes= (omega arith) ∙ sym e)
    (λ e. no= (λ z. never (yes= (omega arith)) e) ∙ sym e)

module _ (s : Satellites) (l : s.low < 2 ^ 64) (h : s.high < 2 ^ 64) where
  -- each is the word of its numbers
  low_word : word 64 (λ n. has_number n s) ≡ s.low
  low_word =
      word_same 64 _ (λ n. has_bit n s.low) (λ n k. has_low n s k) ∙ word_of_bits 64 s.low ∙ mod-eq_of_lt l

  high_word : word 64 (λ n. has_number (64 + n) s) ≡ s.high
  high_word =
      word_same 64 _ (λ n. has_bit n s.high) (λ n k. has_high (64 + n) n s refl)
      ∙ word_of_bits 64 s.high
      ∙ mod-eq_of_lt h

  -- the bits of both are counted
  pub count_both : ones s.low + ones s.high ≡ count_of s
  unfolding count_of
  count_both =
      ap₂ (λ x y. ones x + ones y) (sym low_word) (sym high_word)
      ∙ rw (
        ones_of_word 64 (λ n. has_number n s),
        ones_of_word 64 (λ n. has_number (64 + n) s),
        ← how_many_add 64 64 (λ n. has_number n s),
      )

  -- ---- a number more

  module _ (n : ℕ) where
    low_stays : 64 ≤ n → word 64 (Also n (λ m. has_number m s)) ≡ s.low
    low_stays g =
        word_same 64 _ (λ m. has_number m s) (λ m k. also_other n m (λ j. has_number j s) (λ e. omega arith)) ∙ low_word

    high_stays : ((m : ℕ) → m < 64 → 64 + m ≡ n → ⊥) → word 64 (λ m. Also n (λ k. has_number k s) (64 + m)) ≡ s.high
    high_stays g =
        word_same 64 _ (λ m. has_number (64 + m) s) (λ m k. also_other n (64 + m) (λ j. has_number j s) (g m k))
        ∙ high_word

    -- below 64 it is a bit of the low word
    pub with_low : n < 64 →
        ◌≡◌ {A = Satellites} (record { low = bit_or s.low (2 ^ n); high = s.high }) (with_number n s)
    unfolding with_number words_of
    with_low g = rw (high_stays (λ m k e. omega arith), ← or_word 64 (λ m. has_number m s) n g, low_word)

    -- below 128 one of the high word
    pub with_high : (m : ℕ) → m < 64 → n ≡ 64 + m →
        ◌≡◌ {A = Satellites} (record { low = s.low; high = bit_or s.high (2 ^ m) }) (with_number n s)
    unfolding with_number words_of
    with_high m k e =
        let at-m : word 64 (λ j. Also n (λ i. has_number i s) (64 + j)) ≡ word 64 (Also m (λ j. has_number (64 + j) s)) =
        word_same 64 _ _ (λ j q. rw (e, =?-from 64 j m)) in
        rw (low_stays (omega arith), at-m, ← or_word 64 (λ j. has_number (64 + j) s) m k, high_word)

    -- from 128 on no bit
    pub with_none : 128 ≤ n → s ≡ with_number n s
    unfolding with_number words_of
    with_none g = rw (low_stays (omega arith), high_stays (λ m k e. omega arith))
