-- Words and digits in front of a text.
use Rattle.text.specs.Prelude.{ℕ, ◌+◌, ◌-◌, ◌*◌, ◌≤◌, ◌<◌, ◌≡◌, true, false, List, [], ◌∷◌, length, drop}
use Rattle.text.specs.Prelude.{pick, ◌≤?◌, ◌=?◌, ◌∧?◌, byte, is_digit_of, largest}
use Rattle.text.proofs.Prelude.{arith, refl, sym, ap, ◌∙◌, drop-cons, drop_of_length-le, first, second, yes≤, no≤}
use Rattle.text.proofs.Prelude.{yes=, no=, isnt≤, fails, holds, both, by_test, never}
use native.Mathlib.Numerals.{add-one}
use Rattle.block_read.specs.Read.{starts_with, front_from}
use Rattle.block_read.specs.Held.{front_of}

-- the text from a byte on
pub drop_byte : (s : List ℕ) (i : ℕ) → i < length s → drop i s ≡ byte i s ∷ drop (i + 1) s
drop_byte s i h = rw (add-one, drop-cons s i 0 h)

-- ---- words

pub starts_length : (ws s : List ℕ) → starts_with ws s ≡ true → length ws ≤ length s
unfolding starts_with
starts_length [] s h = omega arith
starts_length (w ∷ ws) [] h = never h refl
starts_length (w ∷ ws) (b ∷ s) h = omega (arith, starts_length ws s (both h).1)

-- words longer than the text do not stand there
pub starts_short : (ws s : List ℕ) → length s < length ws → starts_with ws s ≡ false
starts_short ws s h = by_test (starts_with ws s) (λ e. absurd (omega (arith, starts_length ws s e))) (λ e. e)

-- a turn of the loop that compares: words from i on with the text from j on
module _ (ws s : List ℕ) (i j : ℕ) (word : i < length ws) (inside : j < length s) where
  cells : starts_with (drop i ws) (drop j s) ≡
      ((byte i ws =? byte j s) ∧? starts_with (drop (i + 1) ws) (drop (j + 1) s))
  unfolding starts_with
  cells = rw (drop_byte ws i word, drop_byte s j inside)

  pub other_byte : (byte j s ≡ byte i ws → ⊥) → starts_with (drop i ws) (drop j s) ≡ false
  other_byte h = cells ∙ fails _ (no= (λ e. h (sym e)))

  pub same_byte : byte j s ≡ byte i ws →
      starts_with (drop (i + 1) ws) (drop (j + 1) s) ≡ starts_with (drop i ws) (drop j s)
  same_byte h = sym (cells ∙ holds (yes= (sym h)) refl)

pub all_stand : (ws s : List ℕ) (i : ℕ) → length ws ≤ i → starts_with (drop i ws) s ≡ true
unfolding starts_with
all_stand ws s i h = rw (drop_of_length-le ws h)

-- ---- digits

front_ge : (a : ℕ) (s : List ℕ) → a ≤ front_from a s
unfolding front_from pick
front_ge a [] = omega arith
front_ge a (b ∷ s) =
    by_test (is_digit_of b) (λ e. rw e (omega (arith, front_ge (a * 10 + (b - 48)) s))) (λ e. rw e (omega arith))

-- a turn of the loop: from i on, after digits of the value a, the value is e
module _ (text : List ℕ) (a i : ℕ) {e : ℕ} (inside : i < length text) (inv : front_from a (drop i text) ≡ e) where
  cell : front_from a (byte i text ∷ drop (i + 1) text) ≡ e
  cell = rw (drop_byte text i inside) at inv

  pub front_below_0 : byte i text < 48 → a ≡ e
  unfolding front_from is_digit_of ◌∧?◌ pick
  front_below_0 h = rw (no≤ h) at cell

  pub front_above_9 : 48 ≤ byte i text → 57 < byte i text → a ≡ e
  unfolding front_from is_digit_of ◌∧?◌ pick
  front_above_9 l h = rw (yes≤ l, no≤ h) at cell

  pub front_next : 48 ≤ byte i text → byte i text ≤ 57 →
      front_from (a * 10 + (byte i text - 48)) (drop (i + 1) text) ≡ e
  unfolding front_from is_digit_of ◌∧?◌ pick
  front_next l h = rw (yes≤ l, yes≤ h) at cell

  pub front_least : 48 ≤ byte i text → byte i text ≤ 57 → a * 10 + (byte i text - 48) ≤ e
  front_least l h = rw (front_next l h) at (front_ge (a * 10 + (byte i text - 48)) (drop (i + 1) text))

pub front_done : (text : List ℕ) (a i : ℕ) {e : ℕ} → length text ≤ i → front_from a (drop i text) ≡ e → a ≡ e
unfolding front_from
front_done text a i h inv = rw (drop_of_length-le text h) at inv

one : {a b : ℕ} → a ∷ [] ≡ b ∷ [] → a ≡ b
one h = cc

no_one : {a : ℕ} → [] ≡ a ∷ [] → ⊥
no_one h = let z : ◌≡◌ {A = ℕ} 0 1 = cc in omega arith

-- what the code says of the value
pub front_is : (s : List ℕ) {v : ℕ} → v ≡ front_from 0 s → v ≤ largest → v ∷ [] ≡ front_of s
unfolding front_of
front_is s e h = first _ (yes≤ (rw e at h)) (ap (λ n. n ∷ []) e)

pub front_over : (s : List ℕ) → largest < front_from 0 s → [] ≡ front_of s
unfolding front_of
front_over s h = second _ (no≤ h) refl

-- and the other way round
pub front_some : {v : ℕ} (s : List ℕ) → v ∷ [] ≡ front_of s → v ≡ front_from 0 s
unfolding front_of pick
front_some s e = by_test (front_from 0 s ≤? largest) (λ h. one (rw h at e)) (λ h. absurd (no_one (sym (rw h at e))))

pub front_none : (s : List ℕ) → [] ≡ front_of s → largest < front_from 0 s
unfolding front_of pick
front_none s e = by_test (front_from 0 s ≤? largest) (λ h. absurd (no_one (rw h at e))) (λ h. isnt≤ h)
