-- Counts and log numbers that fit 64 bits.
use Rattle.text.specs.Prelude.{ℕ, zero, suc, ◌+◌, ◌≤◌, ◌<◌, ◌≡◌, true, false, List, [], ◌∷◌, ◌++◌, set, get_or}
use Rattle.text.specs.Prelude.{pick, ◌≤?◌, ◌∧?◌, largest}
use Rattle.text.proofs.Prelude.{arith, refl, yes≤, is≤, holds, both, by_test}
use Rattle.report.specs.Counts.{added}
use Rattle.report.specs.Range.{Range, none, between}
use Rattle.report.proofs.Counts.{get_d_added}
use Rattle.span.specs.Span.{mapped, all_fit, numbers_of}
use Rattle.span.proofs.Fitting.{pair_fit}
use Rattle.total.specs.Laws.{OfBoth, Numbers}

-- ---- some counts

pub all_fit_lem : (l : List ℕ) → ((i : ℕ) → get_or l i 0 ≤ largest) → all_fit l ≡ true
unfolding all_fit
all_fit_lem [] h = refl
all_fit_lem (n ∷ l) h = holds (yes≤ (h 0)) (all_fit_lem l (λ i. h (suc i)))

pub fits_at : (l : List ℕ) (i : ℕ) → all_fit l ≡ true → get_or l i 0 ≤ largest
unfolding all_fit
fits_at [] i e = omega arith
fits_at (n ∷ l) zero e = is≤ (both e).0
fits_at (n ∷ l) (suc i) e = fits_at l i (both e).1

pub one_over : (l : List ℕ) (i : ℕ) → largest < get_or l i 0 → all_fit l ≡ false
one_over l i h = by_test (all_fit l) (λ e. absurd (omega (arith, fits_at l i e))) (λ e. e)

pub set_fit : (l : List ℕ) (i n : ℕ) → all_fit l ≡ true → n ≤ largest → all_fit (set l i n) ≡ true
unfolding all_fit
set_fit [] i n e h = e
set_fit (m ∷ l) zero n e h = holds (yes≤ h) (both e).1
set_fit (m ∷ l) (suc i) n e h = holds (both e).0 (set_fit l i n (both e).1 h)

-- ---- in parts

pub append_fit : (ns ms : List ℕ) → all_fit (ns ++ ms) ≡ (all_fit ns ∧? all_fit ms)
unfolding all_fit ◌∧?◌ pick
append_fit [] ms = refl
append_fit (n ∷ ns) ms = by_test (n ≤? largest) (λ e. rw e (append_fit ns ms)) (λ e. rw e)

module _ (ns ms : List ℕ) (e : all_fit (added ns ms) ≡ true) where
  pub first_fit : all_fit ns ≡ true
  first_fit = all_fit_lem ns (λ i. omega (arith, fits_at (added ns ms) i e, get_d_added ns ms i))

  pub second_fit : all_fit ms ≡ true
  second_fit = all_fit_lem ms (λ i. omega (arith, fits_at (added ns ms) i e, get_d_added ns ms i))

-- ---- log numbers of a highest and a lowest

module _ {P : Type 0} (number : P → ℕ) (k : ℕ) (later : P → P) (is : (p : P) → number (later p) ≡ k + number p) where
  pub own_fit : (n : ℕ) → k + n ≤ largest → (r : Range P) → OfBoth (λ p. Numbers n (number p)) r →
      all_fit (numbers_of number (mapped later r)) ≡ true
  unfolding mapped all_fit numbers_of
  own_fit n h none x = refl
  own_fit n h (between a b) x =
      pair_fit number (later a) (later b) (omega (arith, is a, x.0.1)) (omega (arith, is b, x.1.1))
