-- Digits alone: a turn of the loop that reads them, and how large their value is.
use Rattle.text.specs.Prelude.{ℕ, suc, ◌+◌, ◌-◌, ◌*◌, ◌^◌, ◌≤◌, ◌<◌, ◌≡◌, Bool, true, false, List, ◌∷◌, length, drop}
use Rattle.text.specs.Prelude.{get_or, Res, ok, no, moved, guard, pick, ◌≤?◌, ◌∧?◌, is_digit_of, all_digits_of}
use Rattle.text.specs.Prelude.{first_other_of, value_from}
use Rattle.text.proofs.Finds.{Finds, finds_ok, finds_guard}
use Rattle.text.proofs.Decimal.{value_bound}
use Rattle.text.proofs.Prelude.{arith, refl, sym, ap, ◌∙◌, drop-cons, drop-length, both, is≤}
use native.Mathlib.Nat.{add-zero, pow-suc, lt_of_lt_of_le}
use native.Mathlib.Numerals.{add-one}
use Rattle.text.specs.declared.refusal.Refusal.TheVariants.{UnreadableNumber}
use Rattle.std.specs.Prelude.{◌&&◌}
use Rattle.std.specs.Char.{is_ascii_digit}
use Rattle.finer.specs.Finer.{read_plain_of}
use Rattle.finer.proofs.Small.{power_le}

-- what is left to read from a place on, after digits of the value a
unfoldable pub left : ℕ → ℕ → List ℕ → Res ℕ
left i a s = guard (all_digits_of s) (UnreadableNumber (i + first_other_of s)) (ok (value_from a s))

-- what std asks of a byte is what the definition does
pub ascii_digit : (b : ℕ) → is_ascii_digit b ≡ is_digit_of b
unfolding is_digit_of ◌∧?◌ pick ◌≤?◌
ascii_digit b = by (48 ≤? b)
  where
    by : (t : Bool) → (t && (b ≤? 57)) ≡ pick t (b ≤? 57) false
    by true = refl
    by false = refl

-- from the start it is the whole
pub from_start : (s : List ℕ) → left 0 0 s ≡ read_plain_of s
unfolding left read_plain_of
from_start s = let e : 0 + first_other_of s ≡ first_other_of s = omega arith in rw e

-- a turn of the loop: i bytes of the text were read, to the value a, and b is the next
module _ (text : List ℕ) (a i b : ℕ) (inside : i < length text) (e : b ≡ get_or text i 0)
    (inv : left i a (drop i text) ≡ read_plain_of text) where
  here : left i a (b ∷ drop (i + 1) text) ≡ read_plain_of text
  here =
      let cell : b ∷ drop (i + 1) text ≡ drop i text = rw (add-one, e, drop-cons text i 0 inside) in
      ap (left i a) cell ∙ inv

  pub other_refused : is_digit_of b ≡ false → no (UnreadableNumber i) ≡ read_plain_of text
  unfolding left guard all_digits_of first_other_of ◌∧?◌ pick
  other_refused h = rw (h, add-zero) at here

  pub digit_next : is_digit_of b ≡ true → left (i + 1) (a * 10 + (b - 48)) (drop (i + 1) text) ≡ read_plain_of text
  unfolding left guard all_digits_of first_other_of value_from ◌∧?◌ pick
  digit_next h =
      let z : i + suc (first_other_of (drop (i + 1) text)) ≡ i + 1 + first_other_of (drop (i + 1) text) = omega arith in
      rw (h, z) at here

-- the loop's end
pub digits_done : (text : List ℕ) (a i : ℕ) → i ≡ length text → left i a (drop i text) ≡ read_plain_of text →
    ok a ≡ read_plain_of text
unfolding left guard all_digits_of value_from
digits_done text a i e inv = rw (e, drop-length) at inv

-- ---- how large a value is, over the number of its digits

-- a byte that is a digit
pub digit_range : {b : ℕ} → is_digit_of b ≡ true → (48 ≤ b) × (b ≤ 57)
unfolding is_digit_of
digit_range h = let k = both h in (is≤ k.0, is≤ k.1)

-- a digit more
pub one_more : (i v d : ℕ) → v < 10 ^ i → d ≤ 9 → v * 10 + d < 10 ^ (i + 1)
one_more i v d h k = rw (add-one, pow-suc) (omega arith)

-- of at most five digits
pub below_five : (i : ℕ) {v : ℕ} → i ≤ 5 → v < 10 ^ i → v < 100000
below_five i l h = lt_of_lt_of_le h (power_le i l)

-- what is read is below the power of its digits
plain_below : (s : List ℕ) → Finds (read_plain_of s) (λ d. d < 10 ^ length s)
unfolding read_plain_of
plain_below s = finds_guard _ (λ h. finds_ok (value_bound s h))

pub read_below : (s : List ℕ) {d : ℕ} → ok d ≡ read_plain_of s → d < 10 ^ length s
read_below s {d} h = (plain_below s).found d (sym h)

-- what was found in a part of the line was found there
pub found_moved : {A : Type 0} (a : ℕ) (m : Res A) {v : A} → moved a m ≡ ok v → ok v ≡ m
unfolding moved
found_moved a (ok w) e = sym e
found_moved a (no n) e = let z : ◌≡◌ {A = ℕ} 0 1 = cc in absurd (omega arith)
