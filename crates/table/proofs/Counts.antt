-- A count of two characters is at most 99.
use Rattle.text.specs.Prelude.{ℕ, ◌^◌, ◌≤◌, ◌<◌, ◌≡◌, List, length, drop, ok, moved, read_nat_of, read_digits_of}
use Rattle.text.proofs.Prelude.{arith, sym, length-drop}
use Rattle.text.proofs.Finds.{Finds, finds_ok, finds_guard, finds_moved, finds_pick}
use Rattle.text.proofs.Decimal.{value_below}

-- a number read from some characters is below that power of ten
digits_below : (sign most w : ℕ) (s : List ℕ) → length s ≤ w → Finds (read_digits_of sign most s) (λ v. v < 10 ^ w)
unfolding read_digits_of
digits_below sign most w s l =
    finds_guard _ (λ _. finds_guard _ (λ ds. finds_guard _ (λ _. finds_ok (value_below w s ds l))))

nat_below : (most w : ℕ) (s : List ℕ) → length s ≤ w → Finds (read_nat_of most s) (λ v. v < 10 ^ w)
unfolding read_nat_of
nat_below most w s l = finds_pick (λ _. digits_below 1 most w (drop 1 s) (omega (arith, length-drop 1 s)))
    (λ _. digits_below 0 most w s l)

pub two_characters : (most : ℕ) (s : List ℕ) {v : ℕ} → length s ≤ 2 → ok v ≡ read_nat_of most s → v ≤ 99
two_characters most s {v} l h = omega (arith, (nat_below most 2 s l).found v (sym h))

-- as a reader of a line's columns finds it
pub two_columns : (a most : ℕ) (s : List ℕ) {v : ℕ} → length s ≤ 2 → ok v ≡ moved a (read_nat_of most s) → v ≤ 99
two_columns a most s {v} l h = omega (arith, (finds_moved a (nat_below most 2 s l)).found v (sym h))
