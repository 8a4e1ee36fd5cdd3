-- Parts that lie inside a line.
use Rattle.text.specs.Prelude.{◌+◌, ◌≤◌, ◌≡◌, List, ℕ, length}
use Rattle.text.proofs.Prelude.{arith, refl, ap, ◌∙◌, length-drop, length-take-le, pass, yes≤}
use Rattle.part.specs.Part.{bytes_of, find_part, part_bytes}
use Rattle.part.specs.declared.Part.{Part}
use Rattle.part.proofs.Parts.{shown_found}

module _ (p : Part) (s : List ℕ) (lies : p.start + p.len ≤ length s) where
  -- a view of one hands out its bytes
  pub viewed : part_bytes p s ≡ bytes_of p s
  unfolding find_part
  viewed = ap (λ q. bytes_of q s) (shown_found (pass _ (yes≤ lies) refl))

  -- as many as it is long
  pub wide : length (bytes_of p s) ≡ p.len
  unfolding bytes_of
  wide = length-take-le _ _ (rw length-drop (omega arith))

  -- so is what is shown of it
  pub shown_wide : {v : List ℕ} → v ≡ part_bytes p s → length v ≡ p.len
  shown_wide e = ap length (e ∙ viewed) ∙ wide
