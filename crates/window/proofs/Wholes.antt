-- The whole lines of a piece.
use Rattle.text.specs.Prelude.{ℕ, zero, suc, ◌+◌, ◌-◌, ◌≤◌, ◌<◌, ◌≡◌, true, false, List, [], ◌∷◌, length, take, drop}
use Rattle.text.specs.Prelude.{◌=?◌, byte}
use Rattle.text.proofs.Prelude.{arith, refl, sym, ap, ◌∙◌, drop-cons, drop-length, first, second, yes=, no=, by_test}
use Rattle.igc_log.specs.Log.{closed, closed_from}
use Rattle.igc_log.proofs.Chunks.{closed_none}
use Rattle.window.specs.Piece.{grow, whole_length_of}

-- ---- a byte in front

-- an LF is a whole line
grow_lf : (b : ℕ) → (b =? 10) ≡ true → grow b 0 ≡ 1
unfolding grow
grow_lf b e = sym (first _ e refl)

-- another byte in front of none is none
grow_other : (b : ℕ) → (b =? 10) ≡ false → grow b 0 ≡ 0
unfolding grow
grow_other b e = sym (second _ e refl)

-- any byte in front of some is one more
grow_some : (b n : ℕ) → 0 < n → grow b n ≡ suc n
unfolding grow
grow_some b zero h = absurd (omega arith)
grow_some b (suc n) h = refl

-- it is at most one more
grow_le : (b n : ℕ) → grow b n ≤ suc n
unfolding grow
grow_le b zero = by_test (b =? 10) (λ e. omega (arith, grow_lf b e)) (λ e. omega (arith, grow_other b e))
grow_le b (suc n) = omega arith

-- whole lines with it are whole lines
grow_closed : (b n : ℕ) (s : List ℕ) → n ≤ length s → closed (take n s) ≡ true → closed (take (grow b n) (b ∷ s)) ≡ true
unfolding grow closed closed_from
grow_closed b zero s h k = by_test (b =? 10) (λ e. rw (grow_lf b e) e) (λ e. rw (grow_other b e) closed_none)
grow_closed b (suc n) [] h k = absurd (omega arith)
grow_closed b (suc n) (x ∷ s) h k = k

-- ---- the bytes up to the last LF

-- they are inside the piece
pub whole_le : (s : List ℕ) → whole_length_of s ≤ length s
unfolding whole_length_of
whole_le [] = omega arith
whole_le (b ∷ s) = omega (arith, grow_le b (whole_length_of s), whole_le s)

-- they are closed by an LF, or none
pub whole_closed : (s : List ℕ) → closed (take (whole_length_of s) s) ≡ true
unfolding whole_length_of
whole_closed [] = closed_none
whole_closed (b ∷ s) = grow_closed b (whole_length_of s) s (whole_le s) (whole_closed s)

-- ---- a loop from the end

-- where an LF stands j bytes on, the bytes before it count too
whole_length_later : (j : ℕ) (s : List ℕ) → 0 < whole_length_of (drop j s) → whole_length_of s ≡ j + whole_length_of (drop j s)
unfolding whole_length_of
whole_length_later zero s h = omega arith
whole_length_later (suc j) [] h = absurd (omega arith)
whole_length_later (suc j) (b ∷ s) h = let e = whole_length_later j s h in grow_some b (whole_length_of s) (omega arith)
    ∙ omega (arith, e)

-- no LF stands from i on
pub record NoneFrom (s : List ℕ) (i : ℕ) : Type 0 where
  pub inside : i ≤ length s
  pub none : whole_length_of (drop i s) ≡ 0

-- before the first turn
pub none_yet : (s : List ℕ) → NoneFrom s (length s)
unfolding whole_length_of
none_yet s = record { inside = omega arith; none = rw drop-length }

-- after the last
pub none_at_all : {s : List ℕ} {i : ℕ} → NoneFrom s i → i ≤ 0 → 0 ≡ whole_length_of s
none_at_all {i} n h = let z : i ≡ 0 = omega arith in sym (rw z at n.none)

module _ {s : List ℕ} {i : ℕ} (n : NoneFrom s i) (some : 0 < i) where
  -- the byte before i alone tells what stands from it on
  here : whole_length_of (drop (i - 1) s) ≡ grow (byte (i - 1) s) 0
  unfolding whole_length_of
  here =
      let e : suc (i - 1) ≡ i = omega arith in
      rw (drop-cons s (i - 1) 0 (omega (arith, n.inside)))
      (ap (λ k. grow (byte (i - 1) s) (whole_length_of (drop k s))) e ∙ rw n.none)

  -- it is the last LF
  pub last_here : byte (i - 1) s ≡ 10 → i ≡ whole_length_of s
  last_here e =
      let w : whole_length_of (drop (i - 1) s) ≡ 1 = here ∙ grow_lf _ (yes= e) in
      omega (arith, whole_length_later (i - 1) s (omega arith))

  -- it is none
  pub none_here : (byte (i - 1) s ≡ 10 → ⊥) → NoneFrom s (i - 1)
  none_here e = record { inside = omega (arith, n.inside); none = here ∙ grow_other _ (no= e) }
