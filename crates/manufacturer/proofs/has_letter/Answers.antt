use Rattle.text.specs.Prelude.{ℕ, zero, suc, ◌≡◌, not, ◌=?◌}
use Rattle.std.specs.Prelude.{nat_eq}
use Rattle.text.proofs.Prelude.{refl, sym, ap, ◌∙◌, yes=, no=}
use Rattle.manufacturer.specs.Maker.{is_letter, row_letter}
use Rattle.manufacturer.proofs.has_letter.Goals as goal

-- the byte is the letter, which must then stand for one
same : {b l : ℕ} → b ≡ l → not (nat_eq l 0) ≡ is_letter l (row_letter b)
unfolding is_letter ◌=?◌
same {l = zero} e = rw e refl
same {l = suc l} e = rw e (ap not (no= {a = suc l} {b = 0} (λ e. cc)) ∙ sym (yes= {a = suc l} refl))

-- the byte is another
other : (b l : ℕ) → (b ≡ l → ⊥) → nat_eq b l ≡ is_letter l (row_letter b)
unfolding is_letter ◌=?◌
other zero l n = no= n
other (suc b) l n = no= n ∙ sym (no= (λ e. n (sym e)))

pub returns-then-row-letter : goal.returns-then-row-letter
returns-then-row-letter c = same c.if-row-letter.true

pub returns-else-row-letter : goal.returns-else-row-letter
returns-else-row-letter c = other _ _ c.if-row-letter.false
