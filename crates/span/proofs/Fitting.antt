-- Log numbers that fit 64 bits.
use Rattle.text.specs.Prelude.{ℕ, ◌+◌, ◌-◌, ◌≤◌, ◌≡◌, Bool, true, [], ◌∷◌, pick, largest}
use Rattle.text.proofs.Prelude.{arith, refl, sym, ◌∙◌, yes≤, no≤, is≤, holds, fails, both, by_test, first}
use lib.Dec.{leb}
use borrow.Author.Tests.{leb-true, leb-false}
use Rattle.report.specs.Range.{Range, none, between, turned, higher, joined}
use Rattle.span.specs.Span.{mapped, all_fit, numbers_of, shifted}

-- the code's test of the last sum
pub last_fits : (k n : ℕ) → k ≤ largest → leb n (largest - k) ≡ all_fit ((k + n) ∷ [])
unfolding all_fit
last_fits k n h =
    by_test (leb n (largest - k))
    (λ e. e ∙ sym (holds (yes≤ (omega (arith, leb-true n (largest - k) e))) refl))
    (λ e. e ∙ sym (fails _ (no≤ (omega (arith, leb-false n (largest - k) e)))))

-- ---- log numbers of a highest and a lowest

module _ {P : Type 0} (number : P → ℕ) where
  pub pair_fit : (a b : P) → number a ≤ largest → number b ≤ largest → all_fit (numbers_of number (between a b)) ≡ true
  unfolding all_fit numbers_of
  pair_fit a b p q = holds (yes≤ p) (holds (yes≤ q) refl)

  pub fit_pair : (a b : P) → all_fit (numbers_of number (between a b)) ≡ true →
      (number a ≤ largest) × (number b ≤ largest)
  unfolding all_fit numbers_of
  fit_pair a b e = (is≤ (both e).0, is≤ (both (both e).1).0)

  higher_fits : (below : P → P → Bool) (a b : P) → number a ≤ largest → number b ≤ largest →
      number (higher below a b) ≤ largest
  unfolding higher pick
  higher_fits below a b p q = by_test (below a b) (λ e. rw e q) (λ e. rw e p)

  pub joined_fit : (below : P → P → Bool) (r s : Range P) → all_fit (numbers_of number r) ≡ true →
      all_fit (numbers_of number s) ≡ true → all_fit (numbers_of number (joined below r s)) ≡ true
  unfolding joined
  joined_fit below none s e f = f
  joined_fit below (between a b) none e f = e
  joined_fit below (between a b) (between a' b') e f =
      let p = fit_pair a b e in
      let q = fit_pair a' b' f in
      pair_fit _ _ (higher_fits below a a' p.0 q.0) (higher_fits (turned below) b b' p.1 q.1)

  -- with k logs more before them
  module _ (k : ℕ) (later : P → P) (is : (p : P) → number (later p) ≡ k + number p) where
    pub earlier_fit : (r : Range P) → all_fit (numbers_of number (mapped later r)) ≡ true →
        all_fit (numbers_of number r) ≡ true
    unfolding mapped
    earlier_fit none e = e
    earlier_fit (between a b) e =
        let p = fit_pair (later a) (later b) e in
        pair_fit a b (omega (arith, is a, p.0)) (omega (arith, is b, p.1))

-- ---- shifted where they fit

pub shifted_fit : {P : Type 0} (number : P → ℕ) (f : P → P) (r : Range P) →
    all_fit (numbers_of number (mapped f r)) ≡ true → shifted number f r ≡ mapped f r
unfolding shifted
shifted_fit number f r e = sym (first _ e refl)
