-- Columns of columns, digits in them, and the first byte that is none.
use Rattle.text.specs.Prelude.{ℕ, zero, suc, ◌+◌, ◌-◌, ◌≤◌, ◌<◌, ◌≡◌, true, false, List, [], ◌∷◌, length, take, drop}
use Rattle.text.specs.Prelude.{byte, cut, is_digit_of, all_digits_of, first_other_of}
use Rattle.text.proofs.Prelude.{arith, refl, sym, ap, ◌∙◌, drop_of_length-le, drop-cons, drop-drop, get_or-drop}
use Rattle.text.proofs.Prelude.{get_or-take, first, second, both, holds, by_test, never}
use native.Mathlib.Numerals.{add-one}
use native.Mathlib.Nat.{sub-zero, zero-sub, suc-sub-suc}
use lib.Seq.{take-nil, take-take}
use Rattle.text.proofs.Decimal.{head_digit, cons_digit}

-- ---- columns of columns

drop_take : (c n : ℕ) (s : List ℕ) → drop c (take n s) ≡ take (n - c) (drop c s)
drop_take zero n s = rw sub-zero
drop_take (suc c) zero s = rw zero-sub
drop_take (suc c) (suc n) [] = sym (take-nil (suc n - suc c))
drop_take (suc c) (suc n) (b ∷ s) = rw suc-sub-suc (drop_take c n s)

-- they are columns of the text
pub cut_cut : (a b c d : ℕ) (s : List ℕ) → a + d ≤ b → cut c d (cut a b s) ≡ cut (a + c) (a + d) s
unfolding cut
cut_cut a b c d s h =
    let w : a + d - (a + c) ≡ d - c = omega arith in
    rw (
      drop_take c (b - a) (drop a s),
      take-take (d - c) (b - a - c) (drop c (drop a s)) (omega arith),
      drop-drop c a
          s,
      w,
    )

pub byte_cut : (a b c : ℕ) (s : List ℕ) → a + c < b → byte c (cut a b s) ≡ byte (a + c) s
unfolding cut
byte_cut a b c s h = rw (get_or-take (b - a) (drop a s) c 0 (omega arith), get_or-drop)

-- ---- digits

take_digits : (n : ℕ) (s : List ℕ) → all_digits_of s ≡ true → all_digits_of (take n s) ≡ true
unfolding all_digits_of
take_digits zero s h = refl
take_digits (suc n) [] h = refl
take_digits (suc n) (b ∷ s) h = let k = head_digit b s h in cons_digit b (take n s) k.0 k.1
    (take_digits n s k.2)

drop_digits : (n : ℕ) (s : List ℕ) → all_digits_of s ≡ true → all_digits_of (drop n s) ≡ true
unfolding all_digits_of
drop_digits zero s h = h
drop_digits (suc n) [] h = refl
drop_digits (suc n) (b ∷ s) h = drop_digits n s (head_digit b s h).2

pub digit_at : (s : List ℕ) (i : ℕ) → all_digits_of s ≡ true → i < length s → (48 ≤ byte i s) × (byte i s ≤ 57)
digit_at s i ds h = let k = head_digit _ _ (rw (drop-cons s i 0 h) at (drop_digits i s ds)) in (k.0, k.1)

-- columns of digits have digits in them
pub cut_digits : (a b c d : ℕ) (s : List ℕ) → a + d ≤ b → all_digits_of (cut a b s) ≡ true →
    all_digits_of (cut (a + c) (a + d) s) ≡ true
unfolding cut
cut_digits a b c d s h ds = rw (← cut_cut a b c d s h) (take_digits (d - c) _ (drop_digits c _ ds))

-- ---- the first byte that is no digit

digit_first : (b : ℕ) (s : List ℕ) → is_digit_of b ≡ true → first_other_of (b ∷ s) ≡ suc (first_other_of s)
unfolding first_other_of
digit_first b s h = sym (first _ h refl)

other_first : (b : ℕ) (s : List ℕ) → is_digit_of b ≡ false → first_other_of (b ∷ s) ≡ 0
unfolding first_other_of
other_first b s h = sym (second _ h refl)

-- a loop that looks for it: from i on it stands at e
module _ (s : List ℕ) (i : ℕ) {e : ℕ} (inv : i + first_other_of (drop i s) ≡ e) where
  pub other_here : i < length s → is_digit_of (byte i s) ≡ false → i ≡ e
  other_here h d = omega (arith, inv, at_other)
    where
      at_other : first_other_of (drop i s) ≡ 0
      at_other = rw (drop-cons s i 0 h) (other_first _ _ d)

  pub other_later : i < length s → is_digit_of (byte i s) ≡ true → i + 1 + first_other_of (drop (i + 1) s) ≡ e
  other_later h d = omega (arith, inv, at_digit)
    where
      at_digit : first_other_of (drop i s) ≡ suc (first_other_of (drop (i + 1) s))
      at_digit = rw (drop-cons s i 0 h, add-one) (digit_first _ _ d)

  pub other_nowhere : length s ≤ i → i ≡ e
  unfolding first_other_of
  other_nowhere h = omega (arith, rw (drop_of_length-le s h) at inv)

-- digits alone have none
pub no_other : (s : List ℕ) → all_digits_of s ≡ true → first_other_of s ≡ length s
unfolding all_digits_of first_other_of
no_other [] h = refl
no_other (b ∷ s) h = let k = both h in digit_first b s k.0 ∙ ap suc (no_other s k.1)

-- and any other text has one
pub other_inside : (s : List ℕ) → all_digits_of s ≡ false → first_other_of s < length s
unfolding all_digits_of
other_inside [] h = never refl h
other_inside (b ∷ s) h =
    by_test (is_digit_of b)
    (λ e. omega (arith, digit_first b s e, other_inside s (sym (holds e refl) ∙ h)))
    (λ e. omega (arith, other_first b s e))

-- so where none is found the text is digits alone, and where one is found it is not
pub none_found : (s : List ℕ) → length s ≤ first_other_of s → all_digits_of s ≡ true
none_found s h = by_test (all_digits_of s) (λ e. e) (λ e. absurd (omega (arith, other_inside s e)))

pub one_found : (s : List ℕ) → first_other_of s < length s → all_digits_of s ≡ false
one_found s h = by_test (all_digits_of s) (λ e. absurd (omega (arith, no_other s e))) (λ e. e)
