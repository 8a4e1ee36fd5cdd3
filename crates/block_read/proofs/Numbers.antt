-- What is known of words and numbers once they were read.
use Rattle.text.specs.Prelude.{ℕ, ◌+◌, ◌-◌, ◌≤◌, ◌<◌, ◌≡◌, true, false, code, List, [], ◌∷◌, ◌++◌, length, take, drop}
use Rattle.text.specs.Prelude.{pick, ◌≤?◌, ◌=?◌, byte, padded, ℤ, pos, largest}
use Rattle.text.proofs.Prelude.{arith, refl, sym, ap, ◌∙◌, length-drop, drop-drop, first, second, yes≤, no≤, yes=}
use Rattle.text.proofs.Prelude.{no=, is=, holds, fails, by_test, never, length-append}
use Rattle.text.proofs.Decimal.{length_padded, places_le}
use native.Mathlib.Nat.{zero-add}
use lib.IntN.{neg_ℤ}
use lib.Seq.{sets-eq, take-append_seam}
use Rattle.put.specs.Put.{Wrote}
use Rattle.block_read.specs.Read.{Read, got, wrong, next, starts_with, read_words_of, front_from, read_number_of}
use Rattle.block_read.specs.Read.{read_minus, read_height_of}
use Rattle.block_read.specs.Held.{Came}
use Rattle.block_read.specs.declared.{number.Place.Place}
use Rattle.block_read.proofs.Coming.{here, got_wrong, got_there, wrong_there, comes, stops, alike, then, done}
use Rattle.block_read.proofs.Words.{starts_length}

-- ---- words

module _ {text : List ℕ} {from to : Place} (ws : List ℕ) (good : from.good ≡ true) where
  pub words_stand : starts_with ws (here text from) ≡ true → from.at ≤ length text →
      to ≡ record { at = from.at + length ws; good = true } → Came text from (read_words_of ws) to tt
  unfolding read_words_of
  words_stand h l e =
      let k = starts_length ws (here text from) h in
      rw e
      (comes good refl (omega (arith, length-drop from.at text))
      (first _ h (ap (got tt) (sym (drop-drop (length ws) from.at text)))))

  pub words_missing : starts_with ws (here text from) ≡ false → from.at ≤ length text →
      to ≡ record { at = from.at; good = false } → Came text from (read_words_of ws) to tt
  unfolding read_words_of
  words_missing h l e = stops l e (λ _. second _ h refl)

-- what is known of the words by the place behind them
module _ {text : List ℕ} {from word : Place} (ws : List ℕ) (c : Came text from (read_words_of ws) word tt) where
  stood : word.good ≡ true → starts_with ws (here text from) ≡ true
  unfolding read_words_of pick
  stood e = by_test (starts_with ws (here text from)) (λ h. h) (λ h. got_wrong (sym (rw h at (got_there c e))))

  not_stood : word.good ≡ false → from.good ≡ true → starts_with ws (here text from) ≡ false
  unfolding read_words_of pick
  not_stood e g = by_test (starts_with ws (here text from)) (λ h. got_wrong (rw h at (wrong_there c g e))) (λ h. h)

  module _ {A : Type 0} {to : Place} {a : A} where
    -- what is read behind them
    pub behind_words : (f : List ℕ → Read A) → word.good ≡ true → Came text word f to a →
        Came text from (λ s. f (drop (length ws) s)) to a
    unfolding read_words_of next pick
    behind_words f e d = alike (then (λ _ _ r. f r) c d) (λ _. rw (stood e))

    -- what is read where they stand, and where they do not
    pub where_words : (f g : List ℕ → Read A) → word.good ≡ true → Came text from f to a →
        Came text from (λ s. pick (starts_with ws s) (f s) (g s)) to a
    where_words f g e d = alike d (λ _. first _ (stood e) refl)

    pub where_none : (f g : List ℕ → Read A) → word.good ≡ false → Came text from g to a →
        Came text from (λ s. pick (starts_with ws s) (f s) (g s)) to a
    where_none f g e d = alike d (λ t. second _ (not_stood e t) refl)

-- ---- numbers

module _ {text : List ℕ} {from to : Place} {v : ℕ} (most close : ℕ) where
  -- the value is more than most
  pub number_over : most < front_from 0 (here text from) → from.at ≤ length text →
      to ≡ record { at = from.at; good = false } → Came text from (read_number_of most close) to v
  unfolding read_number_of
  number_over h l e = stops l e (λ _. second _ (no≤ h) refl)

  -- as it prints
  pub number_printed : v ≡ front_from 0 (here text from) → v ≤ most →
      Came text from (read_words_of (padded 1 v ++ (close ∷ []))) to tt → Came text from (read_number_of most close) to v
  unfolding read_number_of pick
  number_printed e h c = alike (then (λ _ _ r. got v r) c (done c.inside)) (λ _. rw (← e, yes≤ h))

-- a text that fits stands in front of the bytes that it was written into
pub printed_whole : {b b' t : List ℕ} {r : ℕ} → Wrote b 0 t b' r → length t ≤ length b → take (r - 0) b' ≡ t
printed_whole {b} {b'} {t} {r} w h =
    let z : r - 0 ≡ length t = omega (arith, w.next, w.short) in
    rw (z, w.content, sets-eq t b 0 (omega arith), zero-add) (take-append_seam t (drop (length t) b))

-- a number of 64 bits has at most 20 digits, and a byte stands behind it
pub printed_short : (n c : ℕ) → n ≤ largest → length (padded 1 n ++ (c ∷ [])) ≤ 21
printed_short n c h = rw (length-append, length_padded) (omega (arith, places_le 19 n (omega arith)))

-- ---- numbers from 1 on

wrong_rest : {A : Type 0} {s r : List ℕ} → ◌≡◌ {A = Read A} (wrong s) (wrong r) → s ≡ r
wrong_rest h = cc

-- a number that is not read is wrong from its first byte on
number_wrong : (most close : ℕ) (s : List ℕ) {r : List ℕ} → read_number_of most close s ≡ wrong r → s ≡ r
unfolding read_number_of read_words_of next pick
number_wrong most close s e =
    by_test (front_from 0 s ≤? most)
    (λ h.
    by_test (starts_with (padded 1 (front_from 0 s) ++ (close ∷ [])) s)
    (λ k. got_wrong (rw (h, k) at e))
    (λ k. wrong_rest (rw (h, k) at e)))
    (λ h. wrong_rest (rw h at e))

-- a number that is not 0, as g sees it
abbrev pub some : {A : Type 0} → (ℕ → A) → ℕ → ℕ → List ℕ → Read A
some g most close s = next (read_number_of most close s) (λ n r. pick (n =? 0) (wrong s) (got (g n) r))

module _ {A : Type 0} {text : List ℕ} {from to : Place} {n : ℕ} (g : ℕ → A) (most close : ℕ)
    (c : Came text from (read_number_of most close) to n) where
  pub some_read : (n ≡ 0 → ⊥) → Came text from (some g most close) to (g n)
  some_read h =
      then (λ s m r. pick (m =? 0) (wrong s) (got (g m) r)) c
      (alike (done c.inside) (λ _. second _ (no= h) refl))

  pub none_read : {stop : Place} {a : A} → n ≡ 0 → from.at ≤ length text →
      stop ≡ record { at = from.at; good = false } → Came text from (some g most close) stop a
  unfolding next
  none_read h l e =
      stops l e (λ t.
      by_test to.good
      (λ k. rw (got_there c k) (first _ (yes= h) refl))
      (λ k. let w = wrong_there c t k in rw w (ap wrong (number_wrong most close (here text from) w))))

-- ---- heights

minus_first : (s : List ℕ) → starts_with (code "-" ∷ []) s ≡ (byte 0 s =? code "-")
unfolding starts_with
minus_first [] = sym (no= (λ e. omega arith))
minus_first (b ∷ s) =
    by_test (code "-" =? b)
    (λ h. holds h (sym (yes= (sym (is= h)))))
    (λ h. fails _ h ∙ sym (no= (λ e. never (yes= (sym e)) h)))

-- by whether a minus stands in front
module _ {text : List ℕ} {from minus to : Place} (m : Came text from (read_words_of (code "-" ∷ [])) minus tt) where
  as_height : {z : ℤ} →
      Came text from
      (λ s. pick (starts_with (code "-" ∷ []) s) (read_minus s)
      (next (read_number_of 32767 (code " ") s) (λ n r. got (pos n) r))) to z →
      Came text from read_height_of to z
  unfolding read_height_of
  as_height c = alike c (λ _. rw minus_first)

  pub height_up : {n : ℕ} → minus.good ≡ false → Came text from (read_number_of 32767 (code " ")) to n →
      Came text from read_height_of to (pos n)
  height_up e c = as_height (where_none _ m read_minus _ e (then (λ _ n r. got (pos n) r) c (done c.inside)))

  pub height_down : {z : ℤ} → minus.good ≡ true →
      Came text minus (some (λ n. neg_ℤ (pos n)) 32768 (code " ")) to z → Came text from read_height_of to z
  unfolding read_minus
  height_down e c = as_height (where_words _ m read_minus _ e (behind_words (code "-" ∷ []) m _ e c))
