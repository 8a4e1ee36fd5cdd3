-- The loop over the lines of a piece, which takes them into lent bytes: what is left to take, from here, makes up the
-- whole.
use Rattle.text.specs.Prelude.{ℕ, suc, ◌+◌, ◌-◌, ◌≤◌, ◌<◌, ◌≡◌, List, [], ◌∷◌, ◌++◌, length, take, drop, set, pick}
use Rattle.text.specs.Prelude.{◌≤?◌}
use Rattle.text.proofs.Prelude.{arith, refl, sym, ap, ◌∙◌, length-drop, drop_of_length-le, drop-drop, length-take-le}
use Rattle.text.proofs.Prelude.{sets, first, second, yes≤, no≤}
use Rattle.part.specs.Part.{bytes_of, part_bytes}
use Rattle.igc_log.specs.Line.{width, line_text, cut_at}
use Rattle.igc_log.specs.Log.{chunks, Reader, LineRead}
use Rattle.igc_log.specs.Fold.{texts, Carried, read_at_of, read_on, past_line}
use Rattle.igc_log.specs.Taking.{taken_in, next_text, Took}
use Rattle.igc_log.specs.declared.Cut.{Cut}
use Rattle.igc_log.proofs.Ends.{width_le, line_text_first}
use Rattle.igc_log.proofs.Chunks.{chunks_some, chunks_none}
use Rattle.igc_log.proofs.Cuts.{cut_viewed}
use Rattle.igc_log.proofs.Pieces.{no_text}
use Rattle.igc_log.proofs.Reached.{Reached, at_start}

module _ {A H T : Type 0} (R : Reader A H) (step : T → LineRead A H → T) (f : LineRead A H → List ℕ) (c₀ : Carried H T)
    (s : List ℕ) (room : ℕ) where
  -- At the place, with c carried there and so many bytes written: what is taken from there on makes up what is taken of
  -- all.
  pub record Left (at : ℕ) (c : Carried H T) (written : ℕ) : Type 0 where
    pub whole : at + taken_in R step f c (chunks (drop at s)) (room - written) ≡ taken_in R step f c₀ (chunks s) room

module _ {A H T : Type 0} {R : Reader A H} {step : T → LineRead A H → T} {f : LineRead A H → List ℕ} {c₀ : Carried H T}
    {s : List ℕ} {room : ℕ} where
  -- before the first line
  pub left_all : Left R step f c₀ s room 0 c₀ 0
  left_all = let z : room - 0 ≡ room = omega arith in record { whole = rw z (omega arith) }

  module _ {at written : ℕ} {c : Carried H T} (left : Left R step f c₀ s room at c written) where
    -- after the last line
    pub left_none : length s ≤ at → at ≡ taken_in R step f c₀ (chunks s) room
    unfolding taken_in
    left_none h = omega (arith, rw (drop_of_length-le s h, chunks_none) at left.whole)

    module _ (i : at < length s) where
      abbrev here : List ℕ
      here = bytes_of (cut_at at s).line s

      -- the line here is taken where its text has room
      taken_line : taken_in R step f c (chunks (drop at s)) (room - written) ≡
          pick (length (f (read_at_of R c here)) ≤? (room - written))
          (width (drop at s) + taken_in R step f (past_line R step c here (width (drop at s)))
          (chunks (drop (cut_at at s).next s))
          (room - written - length (f (read_at_of R c here)))) 0
      unfolding taken_in cut_at bytes_of line_text
      taken_line =
          let l = length-take-le (width (drop at s)) (drop at s) (width_le (drop at s)) in
          rw (
            chunks_some (drop at s) (omega (arith, length-drop at s)),
            line_text_first (drop at s),
            l,
            drop-drop
                (width (drop at s)) at s,
          )

      pub left_full : room - written < length (f (read_at_of R c here)) → at ≡ taken_in R step f c₀ (chunks s) room
      left_full h = omega (arith, left.whole, taken_line ∙ sym (second _ (no≤ h) refl))

      left_next : length (f (read_at_of R c here)) ≤ room - written →
          Left R step f c₀ s room (cut_at at s).next (past_line R step c here (width (drop at s)))
          (written + length (f (read_at_of R c here)))
      unfolding cut_at
      left_next h =
          let z : room - written - length (f (read_at_of R c here)) ≡ room - (written + length (f (read_at_of R c here))) =
          omega arith in
          record { whole = omega (arith, left.whole, rw z at (taken_line ∙ sym (first _ (yes≤ h) refl))) }

  -- the same of the line as the code cuts it and views it
  pub left_line : {l : List ℕ} {at n p p' written to : ℕ} {h h' : H} {a a' : T} {cut : Cut} → at < length s →
      Left R step f c₀ s room at (record { number = n; place = p; held = h; made = a }) written →
      cut ≡ cut_at at s → l ≡ part_bytes cut.line s → p' + at ≡ p + cut.next → h' ≡ R.after p h l →
      a' ≡ step a (record { number = n + 1; place = p; line = l; answer = R.read l; held = R.after p h l }) →
      to ≡ written + length
      (f (record { number = n + 1; place = p; line = l; answer = R.read l; held = R.after p h l })) → to ≤ room →
      Left R step f c₀ s room cut.next (record { number = n + 1; place = p'; held = h'; made = a' }) to
  unfolding past_line cut_at
  left_line {l} {at} {n} {p} {p'} {cut = cut} i left e v q g m t r =
      let k : l ≡ bytes_of (cut_at at s).line s = v ∙ rw e (cut_viewed s at (omega arith)) in
      let w : p' ≡ p + width (drop at s) = omega (arith, q, ap (λ (x : Cut). x.next) e) in
      rw (e, t, m, g, k, w) (left_next left i (rw (sym k) (omega (arith, t))))

-- ---- the text behind the bytes that were taken

module _ {A H T : Type 0} (R : Reader A H) (step : T → LineRead A H → T) (f : LineRead A H → List ℕ) where
  pub next_none : (c : Carried H T) (s : List ℕ) (n : ℕ) → length s ≤ n → next_text R step f c s n ≡ []
  unfolding next_text
  next_none c s n h = sym (first _ (yes≤ h) refl)

  pub next_is : {c₀ c : Carried H T} {s : List ℕ} {at : ℕ} → Reached R step c₀ s at c → at < length s →
      next_text R step f c₀ s at ≡ f (read_at_of R c (bytes_of (cut_at at s).line s))
  unfolding next_text cut_at bytes_of line_text
  next_is r i = rw r.made (sym (second _ (no≤ i) refl))

-- ---- what a caller goes on with

-- What is written behind the first byte leaves it.
sets_later : (x : ℕ) (b : List ℕ) (i : ℕ) (t : List ℕ) → sets (x ∷ b) (suc i) t ≡ x ∷ sets b i t
sets_later x b i [] = refl
sets_later x b i (y ∷ t) = sets_later x (set b i y) (suc i) t

-- What was written from the start on stands there, whatever was written behind it.
front_stands : (b t u : List ℕ) → length t ≤ length b → take (length t) (sets b 0 (t ++ u)) ≡ t
front_stands b [] u h = refl
front_stands [] (x ∷ t) u h = let no : ⊥ = omega arith in absurd no
front_stands (y ∷ b) (x ∷ t) u h = rw (sets_later x b 0 (t ++ u), front_stands b t u (omega arith))

module _ {A H T : Type 0} (R : Reader A H) (step : T → LineRead A H → T) (f : LineRead A H → List ℕ) (c : Carried H T)
    (s b b' : List ℕ) (c' : Carried H T) (n end : ℕ) where
  -- What is carried on is what the bytes that were taken make, and what was written is their text, which has room.
  abbrev pub Called : Type 0
  Called =
      Reached R step c s n c' × (take end b' ≡ texts f (read_on R c (take n s))) × (end ≤ length b)

module _ {A H T : Type 0} (R : Reader A H) (step : T → LineRead A H → T) (f : LineRead A H → List ℕ) (c : Carried H T)
    (s b b' : List ℕ) where
  -- So it is where lines were taken,
  pub took_called : {c' : Carried H T} {n end : ℕ} → Took R step f c s b b' c' n end →
      Called R step f c s b b' c' n end
  took_called k = (
    record { inside = k.inside; whole = k.whole; made = k.carried },
    rw (k.content, k.text_end_of) (front_stands b _ _ (omega (arith, k.text_end_of, k.fits))),
    k.fits,
  )

  -- and where none were.
  pub none_called : Called R step f c s b b' c 0 0
  none_called = (at_start, sym (no_text R f c), omega arith)
