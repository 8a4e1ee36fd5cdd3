-- Columns of a text, and what is found in them.
use Rattle.text.specs.Prelude.{ℕ, ◌+◌, ◌-◌, ◌<◌, ◌≡◌, List, [], ◌∷◌, ◌++◌, length, drop, Res, byte, cut, columns}
use Rattle.text.proofs.Prelude.{arith, refl, sym, length-drop, drop_of_length-le, take_all, drop-cons, drop-drop, is=}
use native.Mathlib.Nat.{add-sub_cancel_left}
use native.Mathlib.Numerals.{add-one}
use lib.ListN.{take-append-drop}
use Rattle.text.proofs.Finds.{Finds, finds_moved, finds_guard}
use Rattle.field.specs.Field.{sized, ascii_in, ascii, field}

-- w columns from a on, and all that stands behind them, are all from a on
pub cut_joined : (a w : ℕ) (s : List ℕ) → cut a (a + w) s ++ drop (a + w) s ≡ drop a s
unfolding cut
cut_joined a w s = rw (add-sub_cancel_left a w, ← drop-drop w a s) (take-append-drop w (drop a s))

-- the same of one column
pub joined_byte : (a : ℕ) (s : List ℕ) → a < length s → (byte a s ∷ []) ++ drop (a + 1) s ≡ drop a s
joined_byte a s h = rw (add-one a) (sym (drop-cons s a 0 h))

-- the last column, and the last columns
pub last_byte : (a : ℕ) (s : List ℕ) → length s ≡ a + 1 → byte a s ∷ [] ≡ drop a s
last_byte a s l = let e : drop (a + 1) s ≡ [] = drop_of_length-le s {i = a + 1} (omega arith) in
    rw e at (joined_byte a s (omega arith))

pub to_end : (a b : ℕ) (s : List ℕ) → length s ≡ b → cut a b s ≡ drop a s
unfolding cut
to_end a b s h = take_all (b - a) (drop a s) (omega (arith, length-drop a s))

-- ---- what is found in them

module _ {A : Type 0} (read : List ℕ → Res A) (s : List ℕ) {P : A → Type 0} where
  pub finds_columns : (a b : ℕ) → Finds (read (cut a b s)) P → Finds (columns a b read s) P
  unfolding columns
  finds_columns a b p = finds_moved a p

  pub finds_rest : (a : ℕ) → Finds (read (drop a s)) P → Finds (columns a (length s) read s) P
  unfolding columns
  finds_rest a p = finds_moved a (rw (to_end a (length s) s refl) p)

  pub finds_sized : (n : ℕ) → (length s ≡ n → Finds (read s) P) → Finds (sized n read s) P
  unfolding sized
  finds_sized n p = finds_guard _ (λ l. p (is= l))

  pub finds_field : (n : ℕ) → (length s ≡ n → Finds (read s) P) → Finds (field n read s) P
  unfolding field sized ascii ascii_in
  finds_field n p = finds_guard _ (λ l. finds_guard _ (λ _. p (is= l)))
