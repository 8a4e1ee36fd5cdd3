use Rattle.text.specs.Prelude.{ℕ, ◌≡◌, Option, placed, moved_by}
use Rattle.text.proofs.Prelude.{refl, sym, ap, ◌∙◌}
use Rattle.text.specs.declared.refusal.Refusal.TheVariants.{UnreadableNumber}
use Rattle.text.proofs.refusal.Refusal.moved.Goals as goal

-- what is said of the place that was found
told : {A : Type 0} (f : ℕ → A) (other : A) {r e m : Option ℕ} {x : A} →
    r ≡ m → r ≡ e → x ≡ placed f other e → x ≡ placed f other m
told f other p q h = h ∙ ap (placed f other) (sym q ∙ p)

pub returns-in-Some : goal.returns-in-Some
unfolding moved_by placed
returns-in-Some c = told _ _ c.place.ensures c.in-Some.is (ap UnreadableNumber c.counted.ensures)

pub returns-in-None : goal.returns-in-None
unfolding moved_by placed
returns-in-None c = told _ _ c.place.ensures c.in-None.is refl
