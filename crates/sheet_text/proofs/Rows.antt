-- Lines of answers in a row.
use Rattle.text.specs.Prelude.{ℕ, zero, suc, ◌+◌, ◌<◌, ◌≡◌, List, [], ◌∷◌, ◌++◌, length, take, get_or}
use Rattle.text.proofs.Prelude.{arith, ap, append-nil, append_assoc}
use native.Mathlib.Nat.{add-zero}
use native.Mathlib.Numerals.{add-one}
use Rattle.put.specs.Put.{Wrote}
use Rattle.put.proofs.Writing.{then}
use Rattle.sheet_text.specs.Sheet.{answer_line, answer_lines}

-- the lines of the first k counts and of the next
next_answer : (i k : ℕ) (ns : List ℕ) → k < length ns →
    answer_lines i (take (suc k) ns) ≡ answer_lines i (take k ns) ++ answer_line (i + k) (get_or ns k 0)
unfolding answer_lines
next_answer i k [] h = absurd (omega arith)
next_answer i zero (n ∷ ns) h = rw (append-nil, add-zero)
next_answer i (suc k) (n ∷ ns) h =
    let e : i + suc k ≡ (i + 1) + k = omega arith in
    rw (e, append_assoc) (ap (λ t. answer_line i n ++ t) (next_answer (i + 1) k ns (omega arith)))

-- a turn: the lines of the first k counts are written, and then that of the next
pub in_turn : {b b' b'' : List ℕ} {at i j : ℕ} (k : ℕ) (ns : List ℕ) → k < length ns →
    Wrote b at (answer_lines 0 (take k ns)) b' i → Wrote b' i (answer_line k (get_or ns k 0)) b'' j →
    Wrote b at (answer_lines 0 (take (k + 1) ns)) b'' j
in_turn k ns h p q = let z : 0 + k ≡ k = omega arith in rw (add-one, next_answer 0 k ns h, z) (then p q)
