-- Any two answers that a contract permits are equal.
use Rattle.text.specs.Prelude.{ℕ, ◌≡◌, List, Res}
use Rattle.text.proofs.Prelude.{sym, ◌∙◌}
use Rattle.text.proofs.Answers.{one}
use Rattle.put.specs.Put.{Wrote}
use Rattle.print.specs.Print.{Prints}

-- a printer's answer and the bytes that it leaves are determined
pub prints_one : {m : Res (List ℕ)} {b b₁ b₂ : List ℕ} {r₁ r₂ : (Res ℕ)} → Prints m b b₁ r₁ → Prints m b b₂ r₂
    → (r₁ ≡ r₂) × (b₁ ≡ b₂)
prints_one p q =
    (one p.answer q.answer, p.left ∙ sym q.left)

-- so are a piece's
pub wrote_one : {b t b₁ b₂ : List ℕ} {at r₁ r₂ : ℕ} → Wrote b at t b₁ r₁ → Wrote b at t b₂ r₂ → (r₁ ≡ r₂) × (b₁ ≡ b₂)
wrote_one p q = (p.next ∙ sym q.next, p.content ∙ sym q.content)
