-- Which lines are fixes: B lines alone.
use Rattle.text.specs.Prelude.{None}
use Rattle.text.specs.Prelude.{ℕ, code, ◌≡◌, Bool, true, false, List, Res, ok, no, bind, guard, pick}
use Rattle.text.specs.Prelude.{◌=?◌, byte, begins}
use Rattle.text.proofs.Prelude.{refl, sym, ◌∙◌, pass, is=, holds, both}
use Rattle.text.specs.declared.refusal.Refusal.{Refusal}
use Rattle.b_record.specs.BRecord.{read_b}
use Rattle.records.specs.Record.{Kind, kind_of, read_c, read_kind, read_line_of, record_fix, answer_fix}
use Rattle.records.specs.declared.{Record.Record}

-- a line that begins with B is read as one
pub b_line : (s : List ℕ) → begins (code "B") s ≡ true → bind (read_b s) (λ b. ok (Record.B b)) ≡ read_line_of s
unfolding begins read_line_of kind_of read_kind pick ◌=?◌
b_line s h = let b : byte 0 s ≡ code "B" = is= (both h).1 in pass _ (both h).0 (rw b)

-- ---- and no other is a fix

-- m is no fix
abbrev Other : Res Record → Type 0
Other m = answer_fix m ≡ None

other_bind : {A : Type 0} (m : Res A) (f : A → Record) → ((v : A) → record_fix (f v) ≡ None) →
    Other (bind m (λ v. ok (f v)))
unfolding bind answer_fix
other_bind (ok v) f h = h v
other_bind (no n) f h = refl

other_guard : (t : Bool) (n : Refusal) (m : Res Record) → (t ≡ true → Other m) → Other (guard t n m)
unfolding guard answer_fix
other_guard true n m h = h refl
other_guard false n m h = refl

-- what both have, the one that is picked has
picked_has : {A : Type 0} (P : A → Type 0) (t : Bool) (a b : A) → P a → P b → P (pick t a b)
unfolding pick
picked_has P true a b p q = p
picked_has P false a b p q = q

-- and where the test fails, what the second has
second_has : {A : Type 0} (P : A → Type 0) {t : Bool} (a b : A) → t ≡ false → P b → P (pick t a b)
unfolding pick
second_has P a b e q = rw e q

-- a line of any other kind
kind_other : (b : ℕ) (s : List ℕ) → (b =? code "B") ≡ false → Other (read_kind (kind_of b) s)
unfolding kind_of read_kind read_c record_fix answer_fix
kind_other b s e =
    let P : Kind → Type 0 = λ k. Other (read_kind k s) in
    picked_has P _ _ _ (other_bind _ Record.A (λ r. refl))
    (second_has P _ _ e
    (picked_has P _ _ _
    (other_guard _ _ _ (λ t. picked_has Other _ _ _ (other_bind _ Record.CTurnpoint (λ r. refl))
    (other_bind _ Record.CDeclaration (λ r. refl))))
    (picked_has P _ _ _ (other_bind _ Record.D (λ r. refl))
    (picked_has P _ _ _ (other_bind _ Record.E (λ r. refl))
    (picked_has P _ _ _ (other_bind _ Record.F (λ r. refl))
    (picked_has P _ _ _ (other_bind _ Record.G (λ r. refl))
    (picked_has P _ _ _ (other_bind _ Record.H (λ r. refl))
    (picked_has P _ _ _ (other_bind _ (λ ds. Record.I) (λ r. refl))
    (picked_has P _ _ _ (other_bind _ (λ ds. Record.J) (λ r. refl))
    (picked_has P _ _ _ (other_bind _ Record.K (λ r. refl))
    (picked_has P _ _ _ (other_bind _ Record.L (λ r. refl))
    refl)))))))))))

-- a line that begins with another byte, or is empty
pub other_line : (s : List ℕ) → begins (code "B") s ≡ false → Other (read_line_of s)
unfolding begins read_line_of
other_line s h = other_guard _ _ _ (λ e. kind_other (byte 0 s) s (sym (holds e refl) ∙ h))
