use Rattle.text.specs.Prelude.{ℕ, ◌+◌, ◌-◌, ◌≤◌, ◌≡◌, ok, no}
use Rattle.text.proofs.Prelude.{rules, arith, ap, came, on, off, pass, stop, ◌∙◌, yes≤, no≤}
use Rattle.part.specs.declared.Part.{Part}
use Rattle.part.proofs.Parts.{inside}
use Rattle.extension.specs.Value.{find_value}
use Rattle.extension.proofs.Extension.find.Goals as goal

-- as the code works it out
worked : (a base first last : ℕ) → base + 1 ≤ first → first ≤ last
    → ◌≡◌ {A = Part} (record { start = a + (first - base - 1); len = last - first + 1 })
    (record { start = a + (first - (base + 1)); len = (last - base) - (first - (base + 1)) })
worked a base first last p q =
    let s : first - base - 1 ≡ first - (base + 1) = omega arith in
    let l : last - first + 1 ≡ (last - base) - (first - (base + 1)) = omega arith in
    rw (s, l)

pub returns-in_err-inside : goal.returns-in_err-inside
unfolding find_value
returns-in_err-inside c =
    let left : c.from_residual.result ≡ no c.in_err-inside.field-0.0 = search rules in
    left ∙ off _ (came c.in_err-inside.was c.find.ensures)

pub returns-then-first-base : goal.returns-then-first-base
unfolding find_value
returns-then-first-base c = on _ (came c.in_ok-inside.was c.find.ensures) (stop _ (no≤ (omega arith)))

pub returns-then-last-first : goal.returns-then-last-first
unfolding find_value
returns-then-last-first c =
    on _ (came c.in_ok-inside.was c.find.ensures)
    (pass _ (yes≤ (omega arith)) (stop _ (no≤ c.if-last-first.true)))

pub returns-then-inside-last : goal.returns-then-inside-last
unfolding find_value
returns-then-inside-last c =
    on _ (came c.in_ok-inside.was c.find.ensures)
    (pass _ (yes≤ (omega arith)) (pass _ (yes≤ c.if-last-first.false) (stop _ (no≤ (search rules)))))

pub returns : goal.returns
unfolding find_value
returns c =
    on _ (came c.in_ok-inside.was c.find.ensures)
    (pass _ (yes≤ (omega arith))
    (pass _ (yes≤ c.if-last-first.false)
    (pass _ (yes≤ (search rules)) (ap ok (worked _ _ _ _ (omega arith) c.if-last-first.false)))))

pub overflow_add-result : goal.overflow_add-result
overflow_add-result c = omega (arith, (inside _ _ (came c.in_ok-inside.was c.find.ensures)).ends)
