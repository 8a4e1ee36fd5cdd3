-- A byte as a terminal is to get it.
use Rattle.text.specs.Prelude.{ℕ, ◌≤◌, ◌<◌, ◌≡◌, ◌∨?◌}
use Rattle.text.proofs.Prelude.{arith, refl, first, second, sym, yes≤, no≤, yes=, no=, holds, fails}
use Rattle.files.specs.Terminal.{visible}

pub lf : {b : ℕ} → b ≡ 10 → visible b ≡ b
unfolding visible ◌∨?◌
lf e = sym (first _ (sym (first _ (yes= e) refl)) refl)

pub below : {b : ℕ} → (b ≡ 10 → ⊥) → b < 32 → visible b ≡ 63
unfolding visible ◌∨?◌
below n h = sym (second _ (sym (second _ (no= n) (sym (fails _ (no≤ h))))) refl)

pub above : {b : ℕ} → 126 < b → visible b ≡ 63
unfolding visible ◌∨?◌
above h = sym (second _ (sym (second _ (no= (λ e. omega arith)) (sym (holds (yes≤ (omega arith)) (no≤ h))))) refl)

pub printable : {b : ℕ} → 32 ≤ b → b ≤ 126 → visible b ≡ b
unfolding visible ◌∨?◌
printable h k = sym (first _ (sym (second _ (no= (λ e. omega arith)) (sym (holds (yes≤ h) (yes≤ k))))) refl)

pub ruleset shown = (lf, below, above, printable)
