-- The lines of a log: the first of them, whole lines in front, their bytes, and how many there are.
use Rattle.text.specs.Prelude.{ℕ, suc, ◌+◌, ◌≤◌, ◌<◌, ◌≡◌, true, false, List, [], ◌∷◌, ◌++◌, length, take, drop, ◌=?◌}
use Rattle.text.proofs.Prelude.{arith, refl, sym, length-take-le, first, second, by_test}
use Rattle.igc_log.specs.Line.{width}
use Rattle.igc_log.specs.Log.{push, chunks, closed_from, closed}
use Rattle.igc_log.proofs.Ends.{width_none, width_lf, width_other, width_some, width_le}

-- ---- the first line, and the lines after it

pub chunks_none : chunks [] ≡ []
unfolding chunks
chunks_none = refl

chunks_lf : (b : ℕ) (s : List ℕ) → (b =? 10) ≡ true → chunks (b ∷ s) ≡ (b ∷ []) ∷ chunks s
unfolding chunks
chunks_lf b s e = sym (first _ e refl)

chunks_other : (b : ℕ) (s : List ℕ) → (b =? 10) ≡ false → chunks (b ∷ s) ≡ push b (chunks s)
unfolding chunks
chunks_other b s e = sym (second _ e refl)

chunks_first : (b : ℕ) (s : List ℕ) →
    chunks (b ∷ s) ≡ take (width (b ∷ s)) (b ∷ s) ∷ chunks (drop (width (b ∷ s)) (b ∷ s))
unfolding push
chunks_first b [] =
    by_test (b =? 10)
    (λ e. rw (chunks_lf b [] e, width_lf b [] e))
    (λ e. rw (chunks_other b [] e, width_other b [] e, width_none, chunks_none))
chunks_first b (x ∷ s) =
    by_test (b =? 10)
    (λ e. rw (chunks_lf b (x ∷ s) e, width_lf b (x ∷ s) e))
    (λ e. rw (chunks_other b (x ∷ s) e, width_other b (x ∷ s) e, chunks_first x s))

pub chunks_some : (s : List ℕ) → 0 < length s → chunks s ≡ take (width s) s ∷ chunks (drop (width s) s)
chunks_some [] h = absurd (omega arith)
chunks_some (b ∷ s) h = chunks_first b s

-- ---- whole lines in front of a log are its first lines

push_append : (b x : ℕ) (s : List ℕ) (cs : List (List ℕ)) →
    push b (chunks (x ∷ s) ++ cs) ≡ push b (chunks (x ∷ s)) ++ cs
unfolding push
push_append b x s cs = rw (chunks_first x s)

from_append : (b : ℕ) (s t : List ℕ) → closed_from b s ≡ true → chunks (b ∷ (s ++ t)) ≡ chunks (b ∷ s) ++ chunks t
unfolding closed_from
from_append b [] t h = rw (chunks_lf b t h, chunks_lf b [] h, chunks_none)
from_append b (x ∷ s) t h =
    by_test (b =? 10)
    (λ e. rw (chunks_lf b (x ∷ s ++ t) e, chunks_lf b (x ∷ s) e, from_append x s t h))
    (λ e. rw (
      chunks_other b (x ∷ s ++ t) e,
      chunks_other b (x ∷ s) e,
      from_append x s t h,
      push_append b x s
          (chunks t),
    ))

pub chunks_append : (s t : List ℕ) → closed s ≡ true → chunks (s ++ t) ≡ chunks s ++ chunks t
unfolding closed
chunks_append [] t h = rw chunks_none
chunks_append (b ∷ s) t h = from_append b s t h

-- ---- the bytes of some lines

abbrev pub total : List (List ℕ) → ℕ
total [] = 0
total (c ∷ cs) = length c + total cs

total_push : (b : ℕ) (cs : List (List ℕ)) → total (push b cs) ≡ suc (total cs)
unfolding push
total_push b [] = omega arith
total_push b (c ∷ cs) = omega arith

pub total_chunks : (s : List ℕ) → total (chunks s) ≡ length s
total_chunks [] = rw chunks_none
total_chunks (b ∷ s) =
    by_test (b =? 10)
    (λ e. rw (chunks_lf b s e) (omega (arith, total_chunks s)))
    (λ e. rw (chunks_other b s e, total_push b (chunks s), total_chunks s))

-- ---- the first line by itself: one line, and closed where bytes follow it

one_first : (b : ℕ) (s : List ℕ) → chunks (take (width (b ∷ s)) (b ∷ s)) ≡ take (width (b ∷ s)) (b ∷ s) ∷ []
unfolding push
one_first b [] =
    by_test (b =? 10)
    (λ e. rw (width_lf b [] e, chunks_lf b [] e, chunks_none))
    (λ e. rw (width_other b [] e, width_none, chunks_other b [] e, chunks_none))
one_first b (x ∷ s) =
    by_test (b =? 10)
    (λ e. rw (width_lf b (x ∷ s) e, chunks_lf b [] e, chunks_none))
    (λ e. rw (width_other b (x ∷ s) e, chunks_other b _ e, one_first x s))

pub one_line : (s : List ℕ) → 0 < length s → chunks (take (width s) s) ≡ take (width s) s ∷ []
one_line [] h = absurd (omega arith)
one_line (b ∷ s) h = one_first b s

closed_push : (b : ℕ) (s : List ℕ) → 0 < length s → closed s ≡ true → closed (b ∷ s) ≡ true
unfolding closed closed_from
closed_push b [] h e = absurd (omega arith)
closed_push b (x ∷ s) h e = e

pub closed_none : closed [] ≡ true
unfolding closed
closed_none = refl

closed_lf : (b : ℕ) → (b =? 10) ≡ true → closed (b ∷ []) ≡ true
unfolding closed closed_from
closed_lf b e = e

pub closed_line : (s : List ℕ) → width s < length s → closed (take (width s) s) ≡ true
closed_line [] h = absurd (omega arith)
closed_line (b ∷ []) h = absurd (omega (arith, width_some (b ∷ []) (omega arith)))
closed_line (b ∷ x ∷ s) h =
    by_test (b =? 10)
    (λ e. rw (width_lf b (x ∷ s) e) (closed_lf b e))
    (λ e. let w = width_other b (x ∷ s) e in
    let long = length-take-le (width (x ∷ s)) (x ∷ s) (width_le (x ∷ s)) in
    let some = width_some (x ∷ s) (omega arith) in
    rw w (closed_push b _ (omega (arith, long)) (closed_line (x ∷ s) (omega arith))))

-- ---- whole lines behind whole lines

closed_from_lem : (b : ℕ) (s t : List ℕ) → closed_from b s ≡ true → closed t ≡ true → closed_from b (s ++ t) ≡ true
unfolding closed closed_from
closed_from_lem b [] [] h k = h
closed_from_lem b [] (x ∷ t) h k = k
closed_from_lem b (x ∷ s) t h k = closed_from_lem x s t h k

pub closed_append : (s t : List ℕ) → closed s ≡ true → closed t ≡ true → closed (s ++ t) ≡ true
unfolding closed
closed_append [] t h k = k
closed_append (b ∷ s) t h k = closed_from_lem b s t h k

-- ---- there are no more lines than bytes

push_le : (b : ℕ) (cs : List (List ℕ)) → length (push b cs) ≤ length cs + 1
unfolding push
push_le b [] = omega arith
push_le b (c ∷ cs) = omega arith

pub chunks_le : (s : List ℕ) → length (chunks s) ≤ length s
chunks_le [] = rw chunks_none (omega arith)
chunks_le (b ∷ s) =
    by_test (b =? 10)
    (λ e. rw (chunks_lf b s e) (omega (arith, chunks_le s)))
    (λ e. rw (chunks_other b s e) (omega (arith, push_le b (chunks s), chunks_le s)))
