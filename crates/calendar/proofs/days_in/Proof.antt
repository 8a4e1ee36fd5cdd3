use Rattle.text.specs.Prelude.{ℕ, ◌≡◌, get_or}
use Rattle.text.proofs.Prelude.{rules, refl, sym, ap, ◌∙◌}
use Rattle.calendar.specs.Days.{months, days_in_of}
use Rattle.calendar.proofs.Gregorian.{past_months}
use Rattle.calendar.proofs.days_in.Statement.{statement}
use Rattle.calendar.proofs.days_in.Tie as tie

-- in the arm of the month k
arm : {m k r : ℕ} (y : ℕ) → m ≡ k → r ≡ days_in_of k y → r ≡ days_in_of m y
arm y p q = q ∙ ap (λ (n : ℕ). days_in_of n y) (sym p)

pub days_in_spec : {M : Type 1} → statement M
unfolding days_in_of months get_or
days_in_spec =
    tie.close
    (tie.spec
    (search rules)
    (λ c. arm _ c.in-1.is refl)
    (λ c. arm _ c.before.in-2.is c.february.ensures)
    (λ c. arm _ c.in-3.is refl)
    (λ c. arm _ c.in-4.is refl)
    (λ c. arm _ c.in-5.is refl)
    (λ c. arm _ c.in-6.is refl)
    (λ c. arm _ c.in-7.is refl)
    (λ c. arm _ c.in-8.is refl)
    (λ c. arm _ c.in-9.is refl)
    (λ c. arm _ c.in-10.is refl)
    (λ c. arm _ c.in-11.is refl)
    (λ c. arm _ c.in-12.is refl)
    (λ c. sym (past_months _ _ c.in_default.in_default-own.rest)))
