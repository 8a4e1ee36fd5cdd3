-- A value that is found lies inside the line.
use Rattle.text.specs.Prelude.{ℕ, ◌+◌, ◌≤◌, ◌≡◌, List, length, ok}
use Rattle.text.proofs.Prelude.{arith, refl, sym, ◌∙◌, pass, yes≤, is≤}
use Rattle.part.specs.Part.{find_part, shown}
use Rattle.part.specs.declared.Part.{Part}
use Rattle.text.proofs.Finds.{Finds, finds_ok, finds_bind, finds_guard}
use Rattle.part.proofs.Parts.{inside, shown_found}
use Rattle.extension.specs.Value.{find_value}
use Rattle.extension.specs.declared.Extension.{Extension}

value_inside : (base : ℕ) (rest : Part) (e : Extension) (s : List ℕ) → Finds (find_value base rest e s)
    (λ v. v.start + v.len ≤ length s)
unfolding find_value
value_inside base rest e s =
    finds_bind (record { found = λ r h. inside rest s (sym h) }) (λ r i.
    finds_guard _ (λ a. finds_guard _ (λ b. finds_guard _ (λ c.
    finds_ok (omega (arith, i.ends, is≤ a, is≤ b, is≤ c))))))

-- so a view of it shows it
pub value_shown_lem : (base : ℕ) (rest : Part) (e : Extension) (s : List ℕ) {v : Part} → ok v ≡ find_value base rest e s
    → shown (find_part v s) ≡ shown (find_value base rest e s)
unfolding find_part
value_shown_lem base rest e s {v} h =
    shown_found (pass _ (yes≤ ((value_inside base rest e s).found v (sym h))) refl) ∙ sym (shown_found h)
