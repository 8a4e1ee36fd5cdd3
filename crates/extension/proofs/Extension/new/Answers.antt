use Rattle.text.specs.Prelude.{ℕ, ◌+◌, ◌≤◌, ◌<◌, ◌≡◌, false, ◌≤?◌, ◌∧?◌}
use Rattle.text.proofs.Prelude.{arith, refl, pass, stop, yes≤, no≤, holds, fails, by_test, is≤, isnt≤}
use Rattle.extension.specs.Extension.{new_extension}
use Rattle.extension.proofs.Extension.new.Goals as goal

-- one of the two tests fails
refuses : (start end : ℕ) → (3 ≤ start → start < end → ⊥) → ((3 ≤? start) ∧? (start + 1 ≤? end)) ≡ false
refuses start end h =
    by_test (3 ≤? start) (λ e. let k = is≤ e in holds e (no≤ (by_test (start + 1 ≤? end)
    (λ f. absurd (h k (omega (arith, is≤ f)))) (λ f. isnt≤ f)))) (λ e. fails _ e)

pub returns-then-start-end : goal.returns-then-start-end
unfolding new_extension
returns-then-start-end c = pass _ (holds (yes≤ (omega arith)) (yes≤ (omega arith))) refl

pub returns : goal.returns
unfolding new_extension
returns c = stop _ (refuses _ _ (λ a b. omega arith))
