-- Texts of elements in a row: one law for the loops that write them.
use Rattle.text.specs.Prelude.{ℕ, zero, suc, ◌+◌, ◌≡◌, List, [], ◌∷◌, ◌++◌, take, drop}
use Rattle.text.proofs.Prelude.{arith, ap, append-nil}
use native.Mathlib.Numerals.{add-one}
use Rattle.put.specs.Put.{Wrote}
use Rattle.put.proofs.Writing.{then}
use Rattle.igc_log.specs.Fold.{texts}
use Rattle.igc_log.proofs.Pieces.{texts_append}

-- the first i elements and the next
take_next : {A : Type 0} (l : List A) (i : ℕ) {x : A} {xs : List A} → drop i l ≡ x ∷ xs →
    take (suc i) l ≡ take i l ++ (x ∷ [])
take_next [] zero e = let z : ◌≡◌ {A = ℕ} 0 1 = cc in absurd (omega arith)
take_next [] (suc i) e = let z : ◌≡◌ {A = ℕ} 0 1 = cc in absurd (omega arith)
take_next (y ∷ l) zero e = cc
take_next (y ∷ l) (suc i) e = ap (λ t. y ∷ t) (take_next l i e)

-- a turn: the first i are written, and then the next
pub in_turn : {A : Type 0} (one : A → List ℕ) {b b' b'' : List ℕ} {at j k : ℕ} (l : List A) (i : ℕ) {x : A} {xs : List A}
    →
    drop i l ≡ x ∷ xs → Wrote b at (texts one (take i l)) b' j → Wrote b' j (one x) b'' k →
    Wrote b at (texts one (take (i + 1) l)) b'' k
unfolding texts
in_turn one l i {x} e p q = rw (add-one, take_next l i e, texts_append one (take i l) (x ∷ []), append-nil) (then p q)
