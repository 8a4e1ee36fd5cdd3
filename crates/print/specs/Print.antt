-- What a printer answers, and what it leaves in the lent bytes: one contract for all of them.
use Rattle.std.specs.Prelude.{◌≡◌, ◌++◌}
use Rattle.text.specs.Prelude.{ℕ, List, length, drop, Res, ok, no, bind, guard, pick, ◌≤?◌}
use Rattle.text.specs.declared.refusal.Refusal.TheVariants.{NoRoom}

-- The length written: the text's own refusal first, then 10 exactly where the text is longer than the bytes lent.
unfoldable pub answer_to : Res (List ℕ) → List ℕ → Res ℕ
answer_to m b = bind m (λ t. guard (length t ≤? length b) NoRoom (ok (length t)))

-- The bytes afterwards: the text and then what stood behind it; a refused call changes nothing.
unfoldable pub left_by : Res (List ℕ) → List ℕ → List ℕ
left_by (ok t) b = pick (length t ≤? length b) (t ++ drop (length t) b) b
left_by (no n) b = b

-- ---- the answers of the code

-- A printer of m answers r and leaves b' where b was lent.
pub record Prints (m : Res (List ℕ)) (b b' : List ℕ) (r : (Res ℕ)) : Type 0 where
  pub answer : r ≡ answer_to m b
  pub left : b' ≡ left_by m b
