use Rattle.text.specs.Prelude.{ℕ, zero, suc, ◌≡◌, Bool}
use Rattle.text.proofs.Prelude.{refl}
use Rattle.reported.specs.Flat.{new_end_of}
use Rattle.reported.proofs.ends.new_end.Goals as goal

later : (n : ℕ) (t : Bool) → (n ≡ 0 → ⊥) → t ≡ new_end_of n t
unfolding new_end_of
later zero t h = absurd (h refl)
later (suc n) t h = refl

pub returns-then-seen-eq0 : goal.returns-then-seen-eq0
unfolding new_end_of
returns-then-seen-eq0 c = rw c.if-seen-eq0.true

pub returns : goal.returns
returns c = later _ _ c.if-seen-eq0.false
