-- Tests put together.
use Rattle.text.specs.Prelude.{ℕ, ◌+◌, ◌≡◌, Bool, true, false, not, pick, ◌≤?◌, ◌∧?◌, ◌∨?◌}
use Rattle.text.proofs.Prelude.{arith, refl, sym, ◌∙◌, yes≤, no≤, is≤, isnt≤, by_test}
use native.Mathlib.Nat.{add-zero}

pub ∧?-true : (a : Bool) → (a ∧? true) ≡ a
unfolding ◌∧?◌ pick
∧?-true true = refl
∧?-true false = refl

pub ∧?-false : (a : Bool) → (a ∧? false) ≡ false
unfolding ◌∧?◌ pick
∧?-false true = refl
∧?-false false = refl

pub ∧?-comm : (a b : Bool) → (a ∧? b) ≡ (b ∧? a)
unfolding ◌∧?◌ pick
∧?-comm true b = sym (∧?-true b)
∧?-comm false b = sym (∧?-false b)

pub ∨?-true : (a : Bool) → (a ∨? true) ≡ true
unfolding ◌∨?◌ pick
∨?-true true = refl
∨?-true false = refl

pub ∨?-false : (a : Bool) → (a ∨? false) ≡ a
unfolding ◌∨?◌ pick
∨?-false true = refl
∨?-false false = refl

pub not_not : (a : Bool) → not (not a) ≡ a
not_not true = refl
not_not false = refl

-- one more, where the test t holds, is at least one
pub one_more : (n : ℕ) (t : Bool) → (1 ≤? (n + pick t 1 0)) ≡ ((1 ≤? n) ∨? t)
unfolding pick
one_more n true = yes≤ (omega arith) ∙ sym (∨?-true (1 ≤? n))
one_more n false = rw (add-zero n) (sym (∨?-false (1 ≤? n)))

-- and at most one, unless there was one
pub once_more : (n : ℕ) (t : Bool) → ((n + pick t 1 0) ≤? 1) ≡ ((n ≤? 1) ∧? not (t ∧? (1 ≤? n)))
unfolding pick ◌∧?◌
once_more n true =
    by_test (1 ≤? n)
    (λ e. no≤ (omega (arith, is≤ e)) ∙ rw e (sym (∧?-false (n ≤? 1))))
    (λ e. yes≤ (omega (arith, isnt≤ e)) ∙ rw e (sym (∧?-true (n ≤? 1) ∙ yes≤ (omega (arith, isnt≤ e)))))
once_more n false = rw (add-zero n) (sym (∧?-true (n ≤? 1)))

-- ---- tests of some lines and of one more

-- none of the one kind behind one of the other
pub behind_tested : (a s t n u : Bool) →
    (not (a ∧? (s ∨? t)) ∧? (n ∧? not (t ∧? u))) ≡ ((not (a ∧? s) ∧? n) ∧? not (t ∧? (a ∨? u)))
unfolding ◌∧?◌ ◌∨?◌ pick
behind_tested false s t n u = refl
behind_tested true true t n u = refl
behind_tested true false true true u = refl
behind_tested true false true false u = refl
behind_tested true false false n u = refl

-- once, and not behind
pub once_tested : (a n t s u : Bool) →
    ((a ∧? not (t ∧? s)) ∧? (n ∧? not (t ∧? u))) ≡ ((a ∧? n) ∧? not (t ∧? (s ∨? u)))
unfolding ◌∧?◌ ◌∨?◌ pick
once_tested false n t s u = refl
once_tested true n false s u = refl
once_tested true true true true u = refl
once_tested true false true true u = refl
once_tested true n true false u = refl

-- of two letters
pub both_tested : (a b f g : Bool) → ((a ∧? not f) ∧? (b ∧? not g)) ≡ ((a ∧? b) ∧? not (f ∨? g))
unfolding ◌∧?◌ ◌∨?◌ pick
both_tested false b f g = refl
both_tested true true true g = refl
both_tested true false true g = refl
both_tested true b false g = refl

-- what was fine so far is broken here or holds
pub broken_here : {fine holds breaks : Bool} → fine ≡ true → holds ≡ (fine ∧? not breaks) → breaks ≡ not holds
unfolding ◌∧?◌ pick
broken_here {breaks} f h = sym (rw (h, f) (not_not breaks))
