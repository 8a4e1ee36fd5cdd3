-- The law of pieces holds, for every reader of lines and every step.
use Rattle.text.specs.Prelude.{ℕ, ◌+◌, ◌≡◌, true, List, [], ◌∷◌, ◌++◌, length}
use Rattle.text.proofs.Prelude.{arith, refl, sym, ◌∙◌, append-nil, append_assoc}
use Rattle.igc_log.specs.Line.{line_text}
use Rattle.igc_log.specs.Log.{chunks, closed, Reader, LineRead, read_from, readings}
use Rattle.igc_log.specs.Fold.{over, texts, Carried, fresh, read_on, past_line, past_lines, fed}
use Rattle.igc_log.specs.Pieces.{joined, Whole, fed_all, texts_all, InPieces}
use Rattle.igc_log.proofs.Chunks.{chunks_none, chunks_append, total, total_chunks, chunks_le}

pub texts_append : {X : Type 0} (f : X → List ℕ) (xs ys : List X) → texts f (xs ++ ys) ≡ texts f xs ++ texts f ys
unfolding texts
texts_append f [] ys = refl
texts_append f (x ∷ xs) ys = rw (texts_append f xs ys, append_assoc)

length_lines : {A H : Type 0} (R : Reader A H) (n p : ℕ) (h : H) (ks : List (List ℕ)) →
    length (read_from R n p h ks) ≡ length ks
unfolding read_from
length_lines R n p h [] = refl
length_lines R n p h (k ∷ ks) = rw (length_lines R (n + 1) (p + length k) _ ks)

-- as many readings as lines
pub length_readings : {A H : Type 0} (R : Reader A H) (log : List ℕ) → length (readings R log) ≡ length (chunks log)
unfolding readings
length_readings R log = length_lines R 0 0 R.start (chunks log)

-- no bytes have no text
pub no_text : {A H T : Type 0} (R : Reader A H) (f : LineRead A H → List ℕ) (c : Carried H T) →
    texts f (read_on R c []) ≡ []
unfolding read_on read_from texts
no_text R f c = rw chunks_none

module _ {A H T : Type 0} (R : Reader A H) (step : T → LineRead A H → T) where
  -- ---- over lines

  abbrev lines : Carried H T → List (List ℕ) → List (LineRead A H)
  lines c ks = read_from R c.number c.place c.held ks

  made_lines : (c : Carried H T) (ks : List (List ℕ)) → (past_lines R step c ks).made ≡ over step c.made (lines c ks)
  unfolding past_lines past_line read_from over
  made_lines c [] = refl
  made_lines c (k ∷ ks) = made_lines (past_line R step c (line_text k) (length k)) ks

  number_lines : (c : Carried H T) (ks : List (List ℕ)) → (past_lines R step c ks).number ≡ c.number + length ks
  unfolding past_lines past_line
  number_lines c [] = omega arith
  number_lines c (k ∷ ks) = omega (arith, number_lines (past_line R step c (line_text k) (length k)) ks)

  place_lines : (c : Carried H T) (ks : List (List ℕ)) → (past_lines R step c ks).place ≡ c.place + total ks
  unfolding past_lines past_line
  place_lines c [] = omega arith
  place_lines c (k ∷ ks) = omega (arith, place_lines (past_line R step c (line_text k) (length k)) ks)

  append_lines : (c : Carried H T) (ks ls : List (List ℕ)) →
      past_lines R step c (ks ++ ls) ≡ past_lines R step (past_lines R step c ks) ls
  unfolding past_lines past_line
  append_lines c [] ls = refl
  append_lines c (k ∷ ks) ls = append_lines (past_line R step c (line_text k) (length k)) ks ls

  read_lines : (c : Carried H T) (ks ls : List (List ℕ)) →
      lines c (ks ++ ls) ≡ lines c ks ++ lines (past_lines R step c ks) ls
  unfolding past_lines past_line read_from
  read_lines c [] ls = refl
  read_lines c (k ∷ ks) ls = rw (read_lines (past_line R step c (line_text k) (length k)) ks ls)

  -- ---- over bytes

  pub made_is : (c : Carried H T) (s : List ℕ) → (fed R step c s).made ≡ over step c.made (read_on R c s)
  unfolding fed read_on
  made_is c s = made_lines c (chunks s)

  pub all_read : (a : T) (log : List ℕ) → read_on R (fresh R a) log ≡ readings R log
  unfolding read_on readings
  all_read a log = refl

  pub fed_none : (c : Carried H T) → fed R step c [] ≡ c
  unfolding fed past_lines
  fed_none c = rw chunks_none

  pub fed_append : (c : Carried H T) (s t : List ℕ) → closed s ≡ true →
      fed R step c (s ++ t) ≡ fed R step (fed R step c s) t
  unfolding fed
  fed_append c s t h = rw (chunks_append s t h) (append_lines c (chunks s) (chunks t))

  pub read_append : (c : Carried H T) (s t : List ℕ) → closed s ≡ true →
      read_on R c (s ++ t) ≡ read_on R c s ++ read_on R (fed R step c s) t
  unfolding fed read_on
  read_append c s t h = rw (chunks_append s t h) (read_lines c (chunks s) (chunks t))

  pub number_is : (c : Carried H T) (s : List ℕ) → (fed R step c s).number ≡ c.number + length (chunks s)
  unfolding fed
  number_is c s = number_lines c (chunks s)

  pub place_is : (c : Carried H T) (s : List ℕ) → (fed R step c s).place ≡ c.place + length s
  unfolding fed
  place_is c s = place_lines c (chunks s) ∙ rw (total_chunks s)

  -- ---- any number of pieces

  all_fed : (c : Carried H T) (ps : List (List ℕ)) → Whole ps → fed_all R step c ps ≡ fed R step c (joined ps)
  unfolding fed_all joined
  all_fed c [] h = sym (fed_none c)
  all_fed c (p ∷ []) h = rw append-nil
  all_fed c (p ∷ q ∷ ps) h = all_fed (fed R step c p) (q ∷ ps) h.1 ∙ sym (fed_append c p (joined (q ∷ ps)) h.0)

  all_texts : (f : LineRead A H → List ℕ) (c : Carried H T) (ps : List (List ℕ)) → Whole ps →
      texts_all R step f c ps ≡ texts f (read_on R c (joined ps))
  unfolding texts_all joined
  all_texts f c [] h = sym (no_text R f c)
  all_texts f c (p ∷ []) h = rw (append-nil, append-nil)
  all_texts f c (p ∷ q ∷ ps) h =
      rw (all_texts f (fed R step c p) (q ∷ ps) h.1, read_append c p (joined (q ∷ ps)) h.0)
      (sym (texts_append f _ _))

  pub in_pieces : InPieces R step
  in_pieces = record {
    made = made_is;
    read = all_read;
    number = number_is;
    place = place_is;
    few = chunks_le;
    reads = read_append;
    feeds = fed_append;
    all = all_fed;
    text = all_texts;
  }
