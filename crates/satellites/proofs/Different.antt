-- Numbers in a row, all below k: which occur, and how many are different.
use Rattle.text.specs.Prelude.{ℕ, ◌≤◌, ◌<◌, ◌≡◌, false, List, [], ◌∷◌, pick, ◌∨?◌}
use Rattle.text.proofs.Prelude.{arith, refl, ◌∙◌, no=}
use Rattle.satellites.specs.Bits.{how_many}
use Rattle.satellites.specs.Satellites.{occurs, different}
use Rattle.satellites.proofs.Words.{how_many_none, how_many_also}

-- every number of ns is below k
abbrev pub Below : ℕ → List ℕ → Type 0
Below k [] = Unit
Below k (n ∷ ns) = (n < k) × Below k ns

-- from k on none occurs
pub occurs_past : (k n : ℕ) (ns : List ℕ) → Below k ns → k ≤ n → occurs n ns ≡ false
unfolding occurs ◌∨?◌ pick
occurs_past k n [] b h = refl
occurs_past k n (m ∷ ns) b h = rw (no= {a = n} {b = m} (λ e. omega arith)) (occurs_past k n ns b.1 h)

-- as many are different as occur
pub count_occurs : (k : ℕ) (ns : List ℕ) → Below k ns → how_many k (λ n. occurs n ns) ≡ different ns
unfolding occurs different
count_occurs k [] h = how_many_none k
count_occurs k (n ∷ ns) h = how_many_also k (λ m. occurs m ns) n h.0 ∙ rw (count_occurs k ns h.1)
