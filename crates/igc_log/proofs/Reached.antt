-- A loop over a log, or over a piece of one: at each place it has made what the lines before that place make.
use Rattle.text.specs.Prelude.{ℕ, ◌+◌, ◌-◌, ◌≤◌, ◌<◌, ◌≡◌, true, List, [], ◌∷◌, ◌++◌, length, take, drop, ◌≤?◌}
use Rattle.text.proofs.Prelude.{arith, refl, sym, ap, ◌∙◌, append-nil, length-drop, length-take, drop_of_length-le}
use Rattle.text.proofs.Prelude.{take_all, length-take-le, is≤, isnt≤, by_test}
use mathlib.Core.Option.{Option, none, some}
use lib.ListN.{take-append-drop}
use lib.Seq.{take-add}
use Rattle.part.specs.Part.{bytes_of, part_bytes}
use Rattle.igc_log.specs.Line.{width, line_text, cut_at}
use Rattle.igc_log.specs.Log.{chunks, closed, Reader, LineRead, read_from, readings}
use Rattle.igc_log.specs.declared.Cut.{Cut}
use Rattle.igc_log.proofs.Ends.{width_le, line_text_first}
use Rattle.igc_log.proofs.Cuts.{next_gt, next_le, cut_viewed}
use Rattle.igc_log.specs.Fold.{over, texts, or_else, first_with, keep, Carried, fresh, read_at_of, read_on, past_line}
use Rattle.igc_log.specs.Fold.{past_lines, fed}
use Rattle.igc_log.proofs.Chunks.{one_line, closed_line, closed_none, closed_append, chunks_le}
use Rattle.igc_log.proofs.Pieces.{texts_append, made_is, all_read, fed_none, fed_append, read_append, number_is}

module _ {A H T : Type 0} (R : Reader A H) (step : T → LineRead A H → T) (c₀ : Carried H T) (s : List ℕ) where
  -- At the place, c is what the lines before it make of c₀.
  pub record Reached (at : ℕ) (c : Carried H T) : Type 0 where
    pub inside : at ≤ length s
    pub whole : at < length s → closed (take at s) ≡ true
    pub made : c ≡ fed R step c₀ (take at s)

one_fed : {A H T : Type 0} (R : Reader A H) (step : T → LineRead A H → T) (c : Carried H T) (s : List ℕ) → 0 < length s
    → fed R step c (take (width s) s) ≡ past_line R step c (line_text s) (width s)
unfolding fed past_lines
one_fed R step c s h = rw (one_line s h, line_text_first s, length-take-le (width s) s (width_le s))

one_read : {A H T : Type 0} (R : Reader A H) (c : Carried H T) (s : List ℕ) → 0 < length s →
    read_on R c (take (width s) s) ≡ read_at_of R c (line_text s) ∷ []
unfolding read_on read_from
one_read R c s h = rw (one_line s h, line_text_first s)

most_lines : {A H T : Type 0} (R : Reader A H) (step : T → LineRead A H → T) (m : T → ℕ) →
    ((a : T) (x : LineRead A H) → m (step a x) ≤ m a + 1)
    → (c : Carried H T) (ks : List (List ℕ)) → m (past_lines R step c ks).made ≤ m c.made + length ks
unfolding past_lines past_line
most_lines R step m h c [] = omega arith
most_lines R step m h c (k ∷ ks) =
    omega (
      arith,
      most_lines R step m h (past_line R step c (line_text k) (length k)) ks,
      h c.made
          (read_at_of R c (line_text k)),
    )

module _ {A H T : Type 0} {R : Reader A H} {step : T → LineRead A H → T} where
  -- before the first line
  pub at_start : {c : Carried H T} {s : List ℕ} → Reached R step c s 0 c
  at_start {c} {s} = record { inside = omega arith; whole = λ h. closed_none; made = sym (fed_none R step c) }

  module _ {c₀ c : Carried H T} {s : List ℕ} {at : ℕ} (r : Reached R step c₀ s at c) where
    -- who goes on from here makes what the whole makes
    rest : fed R step c (drop at s) ≡ fed R step c₀ s
    rest =
        by_test (length s ≤? at)
        (λ e. rw (drop_of_length-le s (is≤ e), r.made, take_all at s (is≤ e)) (fed_none R step _))
        (λ e. rw r.made (sym (fed_append R step c₀ (take at s) (drop at s) (r.whole (isnt≤ e)))
        ∙ rw (take-append-drop at s)))

    -- after the last line
    pub at_end : length s ≤ at → c ≡ fed R step c₀ s
    at_end h = r.made ∙ rw (take_all at s h)

    -- no more lines than bytes
    pub few : c.number ≤ c₀.number + at
    few = rw (r.made, number_is R step c₀ (take at s)) (omega (arith, chunks_le (take at s), length-take at s))

    -- a count that a line raises by at most one
    pub at_most : (m : T → ℕ) → ((a : T) (x : LineRead A H) → m (step a x) ≤ m a + 1) → m c.made ≤ m c₀.made + at
    unfolding fed
    at_most m h = rw r.made
        (omega (arith, most_lines R step m h c₀ (chunks (take at s)), chunks_le (take at s), length-take at s))

    -- what no later line changes
    pub settled : ((x : LineRead A H) → step c.made x ≡ c.made) → c.made ≡ (fed R step c₀ s).made
    unfolding over
    settled h = sym (over_settled (read_on R c (drop at s))) ∙ sym (made_is R step c (drop at s))
        ∙ ap (λ (k : Carried H T). k.made) rest
      where
        over_settled : (xs : List (LineRead A H)) → over step c.made xs ≡ c.made
        over_settled [] = refl
        over_settled (x ∷ xs) = rw (h x) (over_settled xs)

    module _ (p : at < length s) where
      -- the line that is cut here
      next_reached : Reached R step c₀ s (cut_at at s).next
          (past_line R step c (bytes_of (cut_at at s).line s) (width (drop at s)))
      unfolding cut_at bytes_of line_text
      next_reached =
          let w = width (drop at s) in
          record {
            inside = next_le s at r.inside;
            whole = λ h. rw (take-add at w s)
                (closed_append (take at s) (take w (drop at s)) (r.whole p)
                (closed_line (drop at s) (omega (arith, length-drop at s))));
            made =
                rw (r.made, take-add at w s)
                (sym (fed_append R step c₀ (take at s) (take w (drop at s)) (r.whole p) ∙ one_fed R step _ (drop at s)
                (omega (arith, length-drop at s))));
          }

      -- and the text of what was read up to the next place
      pub text_next : (f : LineRead A H → List ℕ)
          → texts f (read_on R c₀ (take (cut_at at s).next s)) ≡ texts f (read_on R c₀ (take at s))
          ++ f (read_at_of R c (bytes_of (cut_at at s).line s))
      unfolding cut_at bytes_of line_text texts
      text_next f =
          let w = width (drop at s) in
          let one = one_read R c (drop at s) (omega (arith, length-drop at s)) in
          rw (
            take-add at w s,
            read_append R step c₀ (take at s) (take w (drop at s)) (r.whole p),
            sym r.made,
            one,
            texts_append f (read_on R c₀ (take at s)),
            append-nil,
          )

      pub less_left : {cut : Cut} → cut ≡ cut_at at s → length s - cut.next < length s - at
      less_left e = rw e (omega (arith, next_gt s at p, next_le s at r.inside))

  -- the same of the line as the code cuts it and views it, with h' held after it and a' made of it
  pub line : {c₀ : Carried H T} {s l : List ℕ} {at n p p' : ℕ} {h h' : H} {a a' : T} {cut : Cut}
      → at < length s → Reached R step c₀ s at (record { number = n; place = p; held = h; made = a })
      → cut ≡ cut_at at s → l ≡ part_bytes cut.line s → p' + at ≡ p + cut.next → h' ≡ R.after p h l
      → a' ≡ step a (record { number = n + 1; place = p; line = l; answer = R.read l; held = R.after p h l })
      → Reached R step c₀ s cut.next (record { number = n + 1; place = p'; held = h'; made = a' })
  unfolding past_line cut_at
  line {c₀} {s} {l} {at} {n} {p} {p'} {h} {h'} {a} {a'} {cut} i r e v q g m =
      let k : l ≡ bytes_of (cut_at at s).line s = v ∙ rw e (cut_viewed s at r.inside) in
      let w : p' ≡ p + width (drop at s) = omega (arith, q, ap (λ (x : Cut). x.next) e) in
      rw (e, m, g, k, w) (next_reached r i)

  -- ---- a product of a whole log

  pub product : {s : List ℕ} {at : ℕ} {a : T} {c : Carried H T} → length s ≤ at → Reached R step (fresh R a) s at c →
      c.made ≡ over step a (readings R s)
  product {s} {at} {a} {c} h r = ap (λ (k : Carried H T). k.made) (at_end r h) ∙ made_is R step (fresh R a) s
      ∙ ap (over step a) (all_read R step a s)

-- ---- the first reading that has something

over_keep : {X T : Type 0} (f : X → Option T) (a : Option T) (xs : List X) →
    over (keep f) a xs ≡ or_else a (first_with f xs)
unfolding over keep or_else first_with
over_keep f none [] = refl
over_keep f (some b) [] = refl
over_keep f none (x ∷ xs) = over_keep f (f x) xs
over_keep f (some b) (x ∷ xs) = over_keep f (some b) xs

module _ {A H T : Type 0} {R : Reader A H} (f : LineRead A H → Option T) {s : List ℕ} {at : ℕ}
    {c : Carried H (Option T)} (r : Reached R (keep f) (fresh R none) s at c) where
  -- it is found on the line before
  pub found : {b : T} → c.made ≡ some b → some b ≡ first_with f (readings R s)
  unfolding keep or_else
  found e =
      sym e ∙ settled r (λ x. rw e) ∙ made_is R (keep f) (fresh R none) s ∙ rw (all_read R (keep f) none s)
      (over_keep f none (readings R s))

  -- no line has it
  pub not_found : length s ≤ at → c.made ≡ none → none ≡ first_with f (readings R s)
  unfolding or_else
  not_found h e = sym e ∙ product h r ∙ over_keep f none (readings R s)
