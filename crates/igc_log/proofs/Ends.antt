-- Where the first line of some bytes ends.
use Rattle.text.specs.Prelude.{ℕ, zero, suc, ◌+◌, ◌-◌, ◌≤◌, ◌<◌, min, ◌≡◌, Bool, true, false, List, [], ◌∷◌, length}
use Rattle.text.specs.Prelude.{take, drop, pick, ◌≤?◌, ◌=?◌, ◌∧?◌, ◌∨?◌, byte}
use Rattle.text.proofs.Prelude.{arith, refl, sym, ap, ◌∙◌, length-drop, drop_of_length-le, take_all, drop-cons}
use Rattle.text.proofs.Prelude.{drop-drop, drop-length, length-take-le, get_or-drop, get_or-take, first, second, yes≤, no≤}
use Rattle.text.proofs.Prelude.{yes=, no=, is≤, isnt≤, by_test}
use native.Mathlib.Numerals.{add-one}
use lib.Seq.{take-take}
use Rattle.igc_log.specs.Line.{up_to, has_lf_of, end_of, text_length, width, line_text}

-- ---- the first LF

up_to_lf : (b : ℕ) (s : List ℕ) → (b =? 10) ≡ true → up_to (b ∷ s) ≡ 0
unfolding up_to
up_to_lf b s e = sym (first _ e refl)

up_to_other : (b : ℕ) (s : List ℕ) → (b =? 10) ≡ false → up_to (b ∷ s) ≡ suc (up_to s)
unfolding up_to
up_to_other b s e = sym (second _ e refl)

up_to_le : (s : List ℕ) → up_to s ≤ length s
unfolding up_to
up_to_le [] = omega arith
up_to_le (b ∷ s) = by_test (b =? 10) (λ e. omega (arith, up_to_lf b s e))
    (λ e. omega (arith, up_to_other b s e, up_to_le s))

-- in the first n bytes it stands where it stood, or they have none
up_to_take : (n : ℕ) (s : List ℕ) → up_to (take n s) ≡ min n (up_to s)
unfolding up_to
up_to_take zero s = omega arith
up_to_take (suc n) [] = omega arith
up_to_take (suc n) (b ∷ s) =
    by_test (b =? 10)
    (λ e. omega (arith, up_to_lf b (take n s) e, up_to_lf b s e))
    (λ e. omega (arith, up_to_other b (take n s) e, up_to_other b s e, up_to_take n s))

-- past n bytes that have none it is n bytes nearer
up_to_drop : (n : ℕ) (s : List ℕ) → n ≤ up_to s → n + up_to (drop n s) ≡ up_to s
unfolding up_to
up_to_drop zero s h = omega arith
up_to_drop (suc n) [] h = absurd (omega arith)
up_to_drop (suc n) (b ∷ s) h =
    by_test (b =? 10)
    (λ e. absurd (omega (arith, up_to_lf b s e)))
    (λ e. let m = up_to_other b s e in omega (arith, up_to_drop n s (omega arith)))

-- a loop that looks for it: from i on it stands at e
module _ (s : List ℕ) (i : ℕ) {e : ℕ} where
  pub up_to_here : i < length s → byte i s ≡ 10 → i + up_to (drop i s) ≡ e → i ≡ e
  up_to_here h b q = omega (arith, q, at_lf)
    where
      at_lf : up_to (drop i s) ≡ 0
      at_lf = rw (drop-cons s i 0 h) (up_to_lf _ _ (yes= b))

  -- j is the place after i
  pub up_to_next : (j : ℕ) → j ≡ i + 1 → i < length s → (byte i s ≡ 10 → ⊥) → i + up_to (drop i s) ≡ e → j + up_to
      (drop j s) ≡ e
  up_to_next j p h b q = rw p (omega (arith, q, at_other))
    where
      at_other : up_to (drop i s) ≡ suc (up_to (drop (i + 1) s))
      at_other = rw (drop-cons s i 0 h, add-one) (up_to_other _ _ (no= b))

  pub up_to_none : length s ≤ i → i + up_to (drop i s) ≡ e → i ≡ e
  unfolding up_to
  up_to_none h q = omega (arith, rw (drop_of_length-le s h) at q)

-- ---- bytes that have one

has_lf : (b : ℕ) (s : List ℕ) → (b =? 10) ≡ true → has_lf_of (b ∷ s) ≡ true
unfolding has_lf_of
has_lf b s e = yes≤ (omega (arith, up_to_lf b s e))

has_other : (b : ℕ) (s : List ℕ) → (b =? 10) ≡ false → has_lf_of (b ∷ s) ≡ has_lf_of s
unfolding has_lf_of
has_other b s e =
    by_test (up_to s + 1 ≤? length s)
    (λ h. yes≤ (omega (arith, up_to_other b s e, is≤ h)) ∙ sym h)
    (λ h. no≤ (omega (arith, up_to_other b s e, isnt≤ h)) ∙ sym h)

-- a loop that asks for one: `any` tells of the bytes before i, and together with what is left, from i on, of all
module _ (s : List ℕ) (i : ℕ) (any : Bool) (inv : (any ∨? has_lf_of (drop i s)) ≡ has_lf_of s) where
  pub has_here : i < length s → byte i s ≡ 10 → (true ∨? has_lf_of (drop (i + 1) s)) ≡ has_lf_of s
  unfolding ◌∨?◌ pick
  has_here h b = by_test any (λ e. rw e at inv) (λ e. rw (e, drop-cons s i 0 h, has_lf _ _ (yes= b)) at inv)

  pub has_later : i < length s → (byte i s ≡ 10 → ⊥) → (any ∨? has_lf_of (drop (i + 1) s)) ≡ has_lf_of s
  has_later h b = rw (drop-cons s i 0 h, has_other _ _ (no= b), ← add-one) at inv

  pub all_told : i ≡ length s → any ≡ has_lf_of s
  unfolding ◌∨?◌ pick has_lf_of up_to ◌≤?◌
  all_told h = by_test any (λ e. e ∙ (rw e at inv)) (λ e. e ∙ (rw (e, h, drop-length) at inv))

-- the bytes from i up to j
module _ (s : List ℕ) (i j : ℕ) (inside : (i ≤ j) × (j ≤ length s)) where
  block_length : length (take (j - i) (drop i s)) ≡ j - i
  block_length = length-take-le (j - i) (drop i s) (omega (arith, length-drop i s))

  pub lf_inside : has_lf_of (take (j - i) (drop i s)) ≡ true → i + up_to (drop i s) < j
  unfolding has_lf_of
  lf_inside h = omega (arith, is≤ h, up_to_take (j - i) (drop i s), block_length)

  -- where they have none, it is the one from j on
  pub lf_after : has_lf_of (take (j - i) (drop i s)) ≡ false → j + up_to (drop j s) ≡ i + up_to (drop i s)
  unfolding has_lf_of
  lf_after h =
      let m : j - i ≤ up_to (drop i s) = omega (arith, isnt≤ h, up_to_take (j - i) (drop i s), block_length) in
      let k : i + (j - i) ≡ j = omega arith in
      omega (arith, rw (drop-drop (j - i) i s, k) at (up_to_drop (j - i) (drop i s) m))

-- ---- the end of the text

end_of_le : (at lf : ℕ) (s : List ℕ) → end_of at lf s ≤ lf
unfolding end_of pick
end_of_le at lf s = by_test ((at + 1 ≤? lf) ∧? (byte (lf - 1) s =? 13)) (λ e. rw e (omega arith))
    (λ e. rw e (omega arith))

-- from the line's own place on it is the same
pub end_of_drop : (p lf : ℕ) (s : List ℕ) → end_of p (p + lf) s ≡ p + end_of 0 lf (drop p s)
unfolding end_of pick ◌∧?◌
end_of_drop p lf s =
    by_test (1 ≤? lf)
    (λ e. let i : p + lf - 1 ≡ p + (lf - 1) = omega (arith, is≤ e) in
    rw (e, yes≤ {a = p + 1} {b = p + lf} (omega (arith, is≤ e)), i, get_or-drop p s (lf - 1) 0)
    (by_test (byte (p + (lf - 1)) s =? 13) (λ f. rw f) (λ f. rw f)))
    (λ e. rw (e, no≤ {a = p + 1} {b = p + lf} (omega (arith, isnt≤ e))))

-- bytes after the LF do not move it
end_of_take : (lf n : ℕ) (s : List ℕ) → lf < n → end_of 0 lf (take n s) ≡ end_of 0 lf s
unfolding end_of
end_of_take lf n s h = rw (get_or-take n s (lf - 1) 0 (omega arith))

pub text_length_le : (s : List ℕ) → text_length s ≤ length s
unfolding text_length pick
text_length_le s =
    by_test (has_lf_of s)
    (λ e. rw e (omega (arith, end_of_le 0 (up_to s) s, up_to_le s)))
    (λ e. rw e (up_to_le s))

-- ---- how many bytes the line takes

pub width_lf : (b : ℕ) (s : List ℕ) → (b =? 10) ≡ true → width (b ∷ s) ≡ 1
unfolding width pick
width_lf b s e = rw (has_lf b s e, up_to_lf b s e)

pub width_other : (b : ℕ) (s : List ℕ) → (b =? 10) ≡ false → width (b ∷ s) ≡ suc (width s)
unfolding width pick
width_other b s e = rw (has_other b s e, up_to_other b s e) (by_test (has_lf_of s) (λ h. rw h (omega arith)) (λ h. rw h))

pub width_le : (s : List ℕ) → width s ≤ length s
unfolding width pick has_lf_of
width_le s = by_test (has_lf_of s) (λ e. rw e (is≤ e)) (λ e. rw e (up_to_le s))

pub width_some : (s : List ℕ) → 0 < length s → 0 < width s
unfolding width pick has_lf_of
width_some s h = by_test (has_lf_of s) (λ e. rw e (omega arith)) (λ e. rw e (omega (arith, isnt≤ e)))

pub width_none : width [] ≡ 0
unfolding width pick has_lf_of up_to ◌≤?◌
width_none = refl

-- ---- the first line by itself has the text that it has among others

pub line_text_first : (s : List ℕ) → line_text (take (width s) s) ≡ line_text s
unfolding line_text text_length width has_lf_of pick
line_text_first s =
    by_test (has_lf_of s)
    (λ e.
    let u : up_to (take (up_to s + 1) s) ≡ up_to s = omega (arith, up_to_take (up_to s + 1) s) in
    let l = length-take-le (up_to s + 1) s (is≤ e) in
    rw (e, u, l, yes≤ {a = up_to s + 1} {b = up_to s + 1} (omega arith), end_of_take (up_to s) (up_to s + 1) s (omega arith))
    (take-take (end_of 0 (up_to s) s) (up_to s + 1) s (omega (arith, end_of_le 0 (up_to s) s))))
    (λ e. ap line_text (rw e (take_all (up_to s) s (omega (arith, isnt≤ e)))))
