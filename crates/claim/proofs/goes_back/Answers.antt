use Rattle.text.specs.Prelude.{ℕ, ◌≡◌}
use Rattle.text.proofs.Prelude.{arith, sym, ◌∙◌, yes≤, no≤, by_test}
use lib.Dec.{ltb}
use borrow.Author.Tests.{ltb-true, ltb-false}
use Rattle.report.specs.Figures.{earlier}
use Rattle.claim.specs.Step.{comes_before}
use Rattle.claim.proofs.goes_back.Goals as goal

-- the test of the code for an earlier time, and the definition's
earlier_tested : (a b : ℕ) → ltb a b ≡ earlier a b
unfolding earlier
earlier_tested a b =
    by_test (ltb a b)
    (λ e. e ∙ sym (yes≤ (omega (arith, ltb-true a b e))))
    (λ e. e ∙ sym (no≤ (omega (arith, ltb-false a b e))))

pub returns-in-Some : goal.returns-in-Some
unfolding comes_before
returns-in-Some c = rw c.in-Some.is (earlier_tested _ _)
