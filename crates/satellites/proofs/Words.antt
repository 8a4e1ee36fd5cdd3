-- Words as sets of bits, over any width k and any test p.
use Rattle.text.specs.Prelude.{ℕ, zero, suc, ◌+◌, ◌-◌, ◌*◌, ◌/◌, ◌%◌, ◌^◌, ◌≤◌, ◌<◌, ◌≡◌, Bool, true, false, pick}
use Rattle.text.specs.Prelude.{◌=?◌, ◌∨?◌}
use Rattle.text.proofs.Prelude.{arith, refl, sym, ap, ◌∙◌, yes=, no=}
use mathlib.Core.Path.{ap₂}
use mathlib.Core.Logic.{⊎_elim}
use native.Mathlib.Nat.{eq-or-lt_of_le, lt_of_lt_of_le, div-eq_of_lt, mod-one, mod-lt, pow-succ'}
use lib.Dec.{eqb}
use lib.Arith.{digits_lt}
use lib.Pow.{pow_pos, pow_mono, pow-lt, high, low, field, mod-pow-add, mod-mod-pow}
use lib.Bits.{bit_and, bit_or, and_mask, or_block, or_zero_r}
use lib.Count.{ones_in, ones, ones_cat}
use Rattle.satellites.specs.Bits.{bit, has_bit, word, how_many}

-- a number below k + 1 is k, or below k
top_or_below : {A : Type 0} {n k : ℕ} → n < suc k → (n ≡ k → A) → (n < k → A) → A
top_or_below h p q = ⊎_elim p q (eq-or-lt_of_le (omega arith))

-- ---- the test p, and the number n besides

abbrev pub Also : ℕ → (ℕ → Bool) → ℕ → Bool
Also n p = λ m. (m =? n) ∨? p m

also_itself : (n : ℕ) (p : ℕ → Bool) → Also n p n ≡ true
unfolding ◌∨?◌ pick
also_itself n p = rw (yes= {a = n} refl)

pub also_other : (n m : ℕ) (p : ℕ → Bool) → (m ≡ n → ⊥) → Also n p m ≡ p m
unfolding ◌∨?◌ pick
also_other n m p e = rw (no= e)

-- ---- no number, and tests that agree below k

pub word_none : (k : ℕ) → word k (λ n. false) ≡ 0
unfolding word
word_none zero = refl
word_none (suc k) = omega (arith, word_none k)

pub how_many_none : (k : ℕ) → how_many k (λ n. false) ≡ 0
unfolding how_many
how_many_none zero = refl
how_many_none (suc k) = omega (arith, how_many_none k)

pub word_same : (k : ℕ) (p q : ℕ → Bool) → ((n : ℕ) → n < k → p n ≡ q n) → word k p ≡ word k q
unfolding word
word_same zero p q h = refl
word_same (suc k) p q h = rw (h k (omega arith), word_same k p q (λ n l. h n (omega arith)))

pub how_many_same : (k : ℕ) (p q : ℕ → Bool) → ((n : ℕ) → n < k → p n ≡ q n) → how_many k p ≡ how_many k q
unfolding how_many
how_many_same zero p q h = refl
how_many_same (suc k) p q h = rw (h k (omega arith), how_many_same k p q (λ n l. h n (omega arith)))

-- ---- a word and its bits

bit_lt : (t : Bool) → bit t < 2
bit_lt true = omega arith
bit_lt false = omega arith

test_of_bit : (t : Bool) → (bit t % 2 =? 1) ≡ t
unfolding ◌=?◌
test_of_bit true = refl
test_of_bit false = refl

bit_of_test : (x : ℕ) → x < 2 → bit (x =? 1) ≡ x
unfolding ◌=?◌
bit_of_test zero h = refl
bit_of_test (suc zero) h = refl
bit_of_test (suc (suc x)) h = absurd (omega arith)

pub word_lt : (k : ℕ) (p : ℕ → Bool) → word k p < 2 ^ k
unfolding word
word_lt zero p = omega arith
word_lt (suc k) p = rw (pow-succ' 2 k) (digits_lt (bit_lt (p k)) (word_lt k p))

-- the word of a word's bits
pub word_of_bits : (k w : ℕ) → word k (λ n. has_bit n w) ≡ w % 2 ^ k
unfolding word has_bit
word_of_bits zero w = sym (mod-one w)
word_of_bits (suc k) w =
    let z : suc k ≡ 1 + k = omega arith in
    rw (z, mod-pow-add w 1 k, bit_of_test (w / 2 ^ k % 2) (mod-lt (w / 2 ^ k) (omega arith)), word_of_bits k w)

-- a bit as the code reads it
pub bit_read : (n w : ℕ) → eqb (bit_and (w / 2 ^ n) 1) 1 ≡ has_bit n w
unfolding has_bit ◌=?◌
bit_read n w = ap (λ x. eqb x 1) (and_mask (w / 2 ^ n) 1)

-- past its width a word has none
pub bit_past : (k n w : ℕ) → w < 2 ^ k → k ≤ n → has_bit n w ≡ false
unfolding has_bit ◌=?◌
bit_past k n w h l = ap (λ x. x % 2 =? 1) (div-eq_of_lt (lt_of_lt_of_le h (pow_mono l)))

-- a bit below k is one of the k low bits
bit_low : (k w n : ℕ) → n < k → has_bit n (w % 2 ^ k) ≡ has_bit n w
unfolding has_bit
bit_low k w n h =
    let z : k ≡ (k - suc n + 1) + n = omega arith in
    ap (λ x. x % 2 =? 1) (ap (λ j. w % 2 ^ j / 2 ^ n) z ∙ field w (k - suc n + 1) n)
    ∙ ap (λ x. x =? 1) (mod-mod-pow (w / 2 ^ n) (k - suc n) 1)

module _ (k : ℕ) (p : ℕ → Bool) where
  bit_top : has_bit k (word (suc k) p) ≡ p k
  unfolding word has_bit
  bit_top = rw (high (bit (p k)) k (word_lt k p)) (test_of_bit (p k))

  bit_under : (n : ℕ) → n < k → has_bit n (word (suc k) p) ≡ has_bit n (word k p)
  unfolding word
  bit_under n l = sym (bit_low k (bit (p k) * 2 ^ k + word k p) n l)
      ∙ ap (has_bit n) (low (bit (p k)) k (word_lt k p))

-- the bits of a word are those that the test gave
pub bit_of_word : (k : ℕ) (p : ℕ → Bool) (n : ℕ) → n < k → has_bit n (word k p) ≡ p n
bit_of_word zero p n h = absurd (omega arith)
bit_of_word (suc k) p n h =
    top_or_below h (λ e. rw e (bit_top k p)) (λ l. bit_under k p n l ∙ bit_of_word k p n l)

-- ---- one bit more

or_one : (t : Bool) → bit_or (bit t) 1 ≡ 1
or_one true = refl
or_one false = refl

module _ (k : ℕ) (t : Bool) (w : ℕ) (h : w < 2 ^ k) where
  or_top : bit_or (bit t * 2 ^ k + w) (2 ^ k) ≡ 1 * 2 ^ k + w
  or_top =
      let z : 2 ^ k ≡ 1 * 2 ^ k + 0 = omega arith in
      ap (bit_or (bit t * 2 ^ k + w)) z
      ∙ or_block k (bit t) 1 w 0 h (pow_pos k)
      ∙ ap₂ (λ x y. x * 2 ^ k + y) (or_one t) (or_zero_r w)

  or_under : (n : ℕ) → n < k → bit_or (bit t * 2 ^ k + w) (2 ^ n) ≡ bit t * 2 ^ k + bit_or w (2 ^ n)
  or_under n l =
      let z : 2 ^ n ≡ 0 * 2 ^ k + 2 ^ n = omega arith in
      ap (bit_or (bit t * 2 ^ k + w)) z
      ∙ or_block k (bit t) 0 w (2 ^ n) h (pow-lt l)
      ∙ ap (λ x. x * 2 ^ k + bit_or w (2 ^ n)) (or_zero_r (bit t))

-- a word or bit n is the word with the number n besides
pub or_word : (k : ℕ) (p : ℕ → Bool) (n : ℕ) → n < k → bit_or (word k p) (2 ^ n) ≡ word k (Also n p)
unfolding word
or_word zero p n h = absurd (omega arith)
or_word (suc k) p n h =
    top_or_below h
    (λ e. rw (e, or_top k (p k) (word k p) (word_lt k p), also_itself k p)
    (ap (λ x. 1 * 2 ^ k + x) (word_same k p (Also k p) (λ m l. sym (also_other k m p (λ q. omega arith))))))
    (λ l. rw (
      or_under k (p k) (word k p) (word_lt k p) n l,
      or_word k p n l,
      also_other n k p (λ q. omega arith),
    ))

-- ---- how many

ones_of_bit : (t : Bool) → ones (bit t) ≡ bit t
unfolding ones ones_in
ones_of_bit true = refl
ones_of_bit false = refl

-- a word has as many bits as numbers pass the test
pub ones_of_word : (k : ℕ) (p : ℕ → Bool) → ones (word k p) ≡ how_many k p
unfolding word how_many
ones_of_word zero p = ones_of_bit false
ones_of_word (suc k) p =
    ones_cat k (bit (p k)) (word k p) (word_lt k p) ∙ rw (ones_of_bit (p k), ones_of_word k p)

-- below j + k: those below j, and those from j on
pub how_many_add : (j k : ℕ) (p : ℕ → Bool) → how_many (j + k) p ≡ how_many j p + how_many k (λ n. p (j + n))
unfolding how_many
how_many_add j zero p = let z : j + 0 ≡ j = omega arith in rw z (omega arith)
how_many_add j (suc k) p = let z : j + suc k ≡ suc (j + k) = omega arith in rw z (omega (arith, how_many_add j k p))

one_unless : (t : Bool) (x : ℕ) → 1 + x ≡ pick t 0 1 + (bit t + x)
unfolding pick
one_unless true x = omega arith
one_unless false x = omega arith

-- with the number n besides there is one more, unless n was there
pub how_many_also : (k : ℕ) (p : ℕ → Bool) (n : ℕ) → n < k → how_many k (Also n p) ≡ pick (p n) 0 1 + how_many k p
unfolding how_many
how_many_also zero p n h = absurd (omega arith)
how_many_also (suc k) p n h =
    top_or_below h
    (λ e. rw (e, also_itself k p, how_many_same k (Also k p) p (λ m l. also_other k m p (λ q. omega arith)))
    (one_unless (p k) (how_many k p)))
    (λ l. rw (also_other n k p (λ q. omega arith), how_many_also k p n l) (omega arith))
