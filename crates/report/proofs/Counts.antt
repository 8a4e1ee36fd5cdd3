-- Counts by number: as one, and raised by one.
use Rattle.text.specs.Prelude.{ℕ, zero, suc, ◌+◌, ◌≤◌, ◌<◌, ◌≡◌, false, List, [], ◌∷◌, length, get_or, set, pick}
use Rattle.text.specs.Prelude.{◌=?◌}
use Rattle.text.proofs.Prelude.{arith, refl, sym, ap, ◌∙◌, yes=, no=, is=, never}
use native.Mathlib.Nat.{zero-add, add-zero, add_assoc}
use lib.ListN.{length-set}
use lib.Seq.{ext_get_or, get_or-set_same, get_or-set_other}
use Rattle.text.proofs.Prelude.{by_test}
use Rattle.report.specs.Counts.{from, summed, added}

-- ---- a count for each number

pub length_from : (k i : ℕ) (f : ℕ → ℕ) → length (from k i f) ≡ k
unfolding from
length_from zero i f = refl
length_from (suc k) i f = ap suc (length_from k (i + 1) f)

get_d_from : (k i : ℕ) (f : ℕ → ℕ) (j : ℕ) → j < k → get_or (from k i f) j 0 ≡ f (i + j)
unfolding from
get_d_from zero i f j h = absurd (omega arith)
get_d_from (suc k) i f zero h = ap f (sym (add-zero i))
get_d_from (suc k) i f (suc j) h =
    let e : i + 1 + j ≡ i + suc j = omega arith in rw e at (get_d_from k (i + 1) f j (omega arith))

-- where each is at most m, so is what stands at a place
pub get_d_from_le : (k i : ℕ) (f : ℕ → ℕ) (m j : ℕ) → ((n : ℕ) → f n ≤ m) → get_or (from k i f) j 0 ≤ m
unfolding from
get_d_from_le zero i f m j h = omega arith
get_d_from_le (suc k) i f m zero h = h i
get_d_from_le (suc k) i f m (suc j) h = get_d_from_le k (i + 1) f m j h

-- ---- as one

pub added_from : (k i : ℕ) (f g : ℕ → ℕ) → added (from k i f) (from k i g) ≡ from k i (λ n. f n + g n)
unfolding from added
added_from zero i f g = refl
added_from (suc k) i f g = ap (λ l. (f i + g i) ∷ l) (added_from k (i + 1) f g)

pub added_assoc : (a b c : List ℕ) → added (added a b) c ≡ added a (added b c)
unfolding added
added_assoc [] b c = refl
added_assoc (x ∷ a) [] c = refl
added_assoc (x ∷ a) (y ∷ b) [] = refl
added_assoc (x ∷ a) (y ∷ b) (z ∷ c) = rw (add_assoc x y z, added_assoc a b c)

pub zeros_added : (k i : ℕ) (l : List ℕ) → length l ≡ k → added (from k i (λ n. 0)) l ≡ l
unfolding from added
zeros_added zero i l h = refl
zeros_added (suc k) i [] h = absurd (omega arith)
zeros_added (suc k) i (x ∷ l) h = rw (zeros_added k (i + 1) l (omega arith), zero-add)

pub added_zeros : (k i : ℕ) (l : List ℕ) → length l ≡ k → added l (from k i (λ n. 0)) ≡ l
unfolding from added
added_zeros zero i [] h = refl
added_zeros zero i (x ∷ l) h = absurd (omega arith)
added_zeros (suc k) i [] h = absurd (omega arith)
added_zeros (suc k) i (x ∷ l) h = rw (added_zeros k (i + 1) l (omega arith), add-zero)

pub get_d_added : (a b : List ℕ) (j : ℕ) → get_or (added a b) j 0 ≡ get_or a j 0 + get_or b j 0
unfolding added
get_d_added [] b j = sym (zero-add (get_or b j 0))
get_d_added (x ∷ a) [] j = sym (add-zero (get_or (x ∷ a) j 0))
get_d_added (x ∷ a) (y ∷ b) zero = refl
get_d_added (x ∷ a) (y ∷ b) (suc j) = get_d_added a b j

pub length_added : (a b : List ℕ) → length a ≡ length b → length (added a b) ≡ length a
unfolding added
length_added [] b h = sym h
length_added (x ∷ a) [] h = absurd (omega arith)
length_added (x ∷ a) (y ∷ b) h = ap suc (length_added a b (omega arith))

pub summed_added : (a b : List ℕ) → summed (added a b) ≡ summed a + summed b
unfolding added summed
summed_added [] b = sym (zero-add (summed b))
summed_added (x ∷ a) [] = sym (add-zero (x + summed a))
summed_added (x ∷ a) (y ∷ b) = omega (arith, summed_added a b)

-- ---- one more of a number; of one past the end nothing changes

module _ (l : List ℕ) (n : ℕ) where
  abbrev one : List ℕ
  one = from (length l) 0 (λ m. pick (n =? m) 1 0)

  one_at : (i : ℕ) → i < length l → get_or (added l one) i 0 ≡ get_or l i 0 + pick (n =? i) 1 0
  one_at i h = rw (get_d_added l one i, get_d_from (length l) 0 (λ m. pick (n =? m) 1 0) i h, zero-add i)

  pub raised : set l n (get_or l n 0 + 1) ≡ added l one
  unfolding pick
  raised =
      ext_get_or 0 _ _ (length-set l n _ ∙ sym (length_added l one (sym (length_from (length l) 0 _))))
      (λ i k.
      let h : i < length l = omega (arith, length-set l n (get_or l n 0 + 1)) in
      by_test (n =? i)
      (λ e. rw (one_at i h, e, sym (is= e)) (get_or-set_same l n _ 0 (omega (arith, is= e))))
      (λ e. rw (one_at i h, e, add-zero) (get_or-set_other l n i _ 0 (λ q. never (yes= (sym q)) e))))

-- it is one in all

none_before : (k i n : ℕ) → n < i → summed (from k i (λ m. pick (n =? m) 1 0)) ≡ 0
unfolding from summed pick
none_before zero i n h = refl
none_before (suc k) i n h =
    let other : (n =? i) ≡ false = no= (λ e. omega arith) in
    rw other (omega (arith, none_before k (i + 1) n (omega arith)))

pub one_in_all : (k i n : ℕ) → i ≤ n → n < i + k → summed (from k i (λ m. pick (n =? m) 1 0)) ≡ 1
unfolding from summed pick
one_in_all zero i n l h = absurd (omega arith)
one_in_all (suc k) i n l h =
    by_test (n =? i)
    (λ e. rw e (omega (arith, none_before k (i + 1) n (omega (arith, is= e)))))
    (λ e.
    let other : n ≡ i → ⊥ = λ q. never (yes= q) e in
    rw e (omega (arith, one_in_all k (i + 1) n (omega arith) (omega arith))))
