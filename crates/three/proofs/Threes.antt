-- Three numbers read together, and then something made of them.
use Rattle.text.specs.Prelude.{ℕ, ◌≡◌, Bool, true, false, List, Res, ok, no, bind, guard, columns, read_nat_of}
use Rattle.text.proofs.Prelude.{refl, sym, ◌∙◌}
use Rattle.text.specs.declared.refusal.Refusal.{Refusal}
use Rattle.field.specs.Field.{sized}
use Rattle.three.specs.Three.{read_three_of, together}
use Rattle.three.specs.declared.Three.{Three}

guard_bind : {A B : Type 0} (t : Bool) (n : Refusal) (m : Res A) (f : A → Res B) →
    guard t n (bind m f) ≡ bind (guard t n m) f
unfolding guard bind
guard_bind true n m f = refl
guard_bind false n m f = refl

-- what is made of the three
abbrev pub made_by : {A : Type 0} → (ℕ → ℕ → ℕ → Res A) → Three → Res A
made_by make t = make t.0 t.1 t.2

three_each : {A : Type 0} (make : ℕ → ℕ → ℕ → Res A) (x y z : Res ℕ)
    → bind x (λ a. bind y (λ b. bind z (λ c. make a b c)))
    ≡ bind (bind x (λ a. bind y (λ b. bind z (λ c. together a b c)))) (made_by make)
unfolding bind
three_each make (ok a) (ok b) (ok c) = refl
three_each make (ok a) (ok b) (no n) = refl
three_each make (ok a) (no n) z = refl
three_each make (no n) y z = refl

pub three_then : {A : Type 0} (make : ℕ → ℕ → ℕ → Res A) (s : List ℕ) →
    bind (sized 6 (read_three_of together) s) (made_by make) ≡ sized 6 (read_three_of make) s
unfolding sized read_three_of
three_then make s =
    sym (guard_bind _ _ _ (made_by make))
    ∙ rw (three_each make (columns 0 2 (read_nat_of 255) s) (columns 2 4 (read_nat_of 255) s) (columns 4 6 (read_nat_of 255) s))
