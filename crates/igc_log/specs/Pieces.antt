-- A log in pieces, each of whole lines, is read as the whole log is. What goes from one to the next is `Carried`.
use Rattle.std.specs.Prelude.{◌+◌, ◌≤◌, ◌≡◌, ◌∷◌, ◌++◌}
use Rattle.text.specs.Prelude.{ℕ, true, List, [], length}
use Rattle.igc_log.specs.Log.{chunks, closed, Reader, LineRead, readings}
use Rattle.igc_log.specs.Fold.{over, texts, Carried, fresh, read_on, fed}

-- Some pieces, one after the other.
unfoldable pub joined : List (List ℕ) → List ℕ
joined [] = []
joined (p ∷ ps) = p ++ joined ps

-- Each of them is a run of whole lines; the last may lack its LF.
abbrev pub Whole : List (List ℕ) → Type 0
Whole [] = Unit
Whole (p ∷ []) = Unit
Whole (p ∷ q ∷ ps) = (closed p ≡ true) × Whole (q ∷ ps)

module _ {A H T : Type 0} (R : Reader A H) (step : T → LineRead A H → T) where
  -- One piece fed after the other.
  unfoldable pub fed_all : Carried H T → List (List ℕ) → Carried H T
  fed_all c [] = c
  fed_all c (p ∷ ps) = fed_all (fed R step c p) ps

  -- Their texts, one after the other.
  unfoldable pub texts_all : (LineRead A H → List ℕ) → Carried H T → List (List ℕ) → List ℕ
  texts_all f c [] = []
  texts_all f c (p ∷ ps) = texts f (read_on R c p) ++ texts_all f (fed R step c p) ps

  -- The law of two pieces, and of any number of them.
  pub record InPieces : Type 0 where
    -- What was made is the fold over what was read, and what is read from the start is what a fresh walk reads.
    pub made : (c : Carried H T) (s : List ℕ) → (fed R step c s).made ≡ over step c.made (read_on R c s)
    pub read : (a : T) (log : List ℕ) → read_on R (fresh R a) log ≡ readings R log
    -- Where it goes on: as many lines and bytes further, and there are no more lines than bytes.
    pub number : (c : Carried H T) (s : List ℕ) → (fed R step c s).number ≡ c.number + length (chunks s)
    pub place : (c : Carried H T) (s : List ℕ) → (fed R step c s).place ≡ c.place + length s
    pub few : (s : List ℕ) → length (chunks s) ≤ length s
    -- A run of whole lines, and what follows, read from where it left off.
    pub reads : (c : Carried H T) (s t : List ℕ) → closed s ≡ true →
        read_on R c (s ++ t) ≡ read_on R c s ++ read_on R (fed R step c s) t
    pub feeds : (c : Carried H T) (s t : List ℕ) → closed s ≡ true →
        fed R step c (s ++ t) ≡ fed R step (fed R step c s) t
    -- Any pieces of whole lines.
    pub all : (c : Carried H T) (ps : List (List ℕ)) → Whole ps → fed_all c ps ≡ fed R step c (joined ps)
    pub text : (f : LineRead A H → List ℕ) (c : Carried H T) (ps : List (List ℕ)) → Whole ps →
        texts_all f c ps ≡ texts f (read_on R c (joined ps))
