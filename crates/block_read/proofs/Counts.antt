-- Counts by answer, one after the other.
use Rattle.text.specs.Prelude.{ℕ, zero, suc, ◌+◌, ◌≤◌, ◌<◌, ◌≡◌, true, false, code, List, [], ◌∷◌, ◌++◌, length}
use Rattle.text.specs.Prelude.{take, drop, set, pick, ◌=?◌, largest}
use Rattle.text.proofs.Prelude.{arith, refl, sym, ap, ◌∙◌, first, second, yes=, no=}
use native.Mathlib.Nat.{add-zero}
use native.Mathlib.Numerals.{add-one}
use lib.Seq.{take-suc-set}
use Rattle.text.specs.Spelt.{spelt_from, spelt}
use Rattle.block_read.specs.Read.{Read, got, wrong, next, read_words_of, read_number_of}
use Rattle.block_read.specs.Block.{read_count, read_answer_of, read_answers_of}
use Rattle.block_read.specs.Held.{Came}
use Rattle.block_read.specs.declared.{number.Place.Place}
use Rattle.block_read.proofs.Coming.{here, from_good, alike, then, done, stays, back}
use Rattle.block_read.proofs.Numbers.{behind_words, where_words, where_none}

-- ---- one answer

-- the first word of its line, and then its number
module _ {text : List ℕ} {from word : Place} (i : ℕ) (w : Came text from (read_words_of (spelt "answer ")) word tt) where
  pub no_answer : word.good ≡ false → from.at ≤ length text → Came text from (read_answer_of i) from 0
  unfolding read_answer_of
  no_answer e l = where_none _ w _ _ e (done l)

  module _ {at : Place} {j : ℕ} (good : word.good ≡ true)
      (n : Came text word (read_number_of largest (code " ")) at j) where
    number : Came text from (λ s. read_number_of largest (code " ") (drop 7 s)) at j
    unfolding spelt spelt_from
    number = behind_words _ w _ good n

    -- what is read behind the number
    counted : {to : Place} {v : ℕ} →
        Came text at (λ r. pick (j =? i) (read_count r) (got 0 (here text from))) to v →
        Came text from (read_answer_of i) to v
    unfolding read_answer_of
    counted c = where_words _ w _ _ good (then (λ s k r. pick (k =? i) (read_count r) (got 0 s)) number c)

    pub no_number : at.good ≡ false → {v : ℕ} → Came text from (read_answer_of i) at v
    no_number e = counted (stays _ _ e n.inside)

    pub other_answer : at.good ≡ true → (j ≡ i → ⊥) → from.at ≤ length text → Came text from (read_answer_of i) from 0
    other_answer e h l = counted (alike (back e (from_good w good) l) (λ _. second _ (no= h) refl))

    pub its_count : {to : Place} {v : ℕ} → j ≡ i → Came text at read_count to v → Came text from (read_answer_of i) to v
    its_count h c = counted (alike c (λ _. first _ (yes= h) refl))

-- ---- all answers

next_next : {A B C : Type 0} (m : Read A) (f : A → List ℕ → Read B) (g : B → List ℕ → Read C) →
    next (next m f) g ≡ next m (λ a s. next (f a s) g)
unfolding next
next_next (got a s) f g = refl
next_next (wrong s) f g = refl

-- the count of the answer i behind the counts before it
behind : ℕ → List ℕ → List ℕ → Read (List ℕ)
behind i ns s = next (read_answer_of i s) (λ n r. got (ns ++ (n ∷ [])) r)

-- it is the same before and after a count is put in front
behind_first : (n j : ℕ) (m : Read (List ℕ)) →
    next (next m (behind j)) (λ ns s. got (n ∷ ns) s) ≡ next (next m (λ ns s. got (n ∷ ns) s)) (behind j)
unfolding next behind
behind_first n j (got ns s) = next_next (read_answer_of j s) _ _
behind_first n j (wrong s) = refl

answers_more : (k i : ℕ) (s : List ℕ) → read_answers_of (suc k) i s ≡ next (read_answers_of k i s) (behind (i + k))
unfolding read_answers_of next behind
answers_more zero i s = rw add-zero
answers_more (suc k) i s = front k i (answers_more k (i + 1)) (read_answer_of i s)
  where
    front : (k i : ℕ) →
        ((r : List ℕ) → read_answers_of (suc k) (i + 1) r ≡ next (read_answers_of k (i + 1) r) (behind (i + 1 + k))) →
        (m : Read ℕ) →
        next m (λ n r. next (read_answers_of (suc k) (i + 1) r) (λ ns q. got (n ∷ ns) q)) ≡
        next (next m (λ n r. next (read_answers_of k (i + 1) r) (λ ns q. got (n ∷ ns) q))) (behind (i + suc k))
    front k i more (got n r) =
        let e : i + suc k ≡ i + 1 + k = omega arith in
        ap (λ m. next m (λ ns q. got (n ∷ ns) q)) (more r) ∙
        rw e (behind_first n (i + 1 + k) (read_answers_of k (i + 1) r))
    front k i more (wrong s) = refl

-- a turn: the first k counts are read, and then the next
pub in_turn : {text : List ℕ} {from p to : Place} {n : ℕ} (k : ℕ) (ns : List ℕ) → k < length ns →
    Came text from (read_answers_of k 0) p (take k ns) → Came text p (read_answer_of k) to n →
    Came text from (read_answers_of (k + 1) 0) to (take (k + 1) (set ns k n))
unfolding behind
in_turn k ns h c d =
    let z : 0 + k ≡ k = omega arith in
    rw (add-one, take-suc-set ns k _ h)
    (alike (then (λ _. behind k) c (then (λ _ m r. got (take k ns ++ (m ∷ [])) r) d (done d.inside)))
    (λ _. sym (answers_more k 0 _ ∙ rw z)))
