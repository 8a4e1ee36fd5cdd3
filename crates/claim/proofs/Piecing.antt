-- A log in pieces comes to the verdict on the whole log.
use Rattle.text.specs.Prelude.{ℕ, ◌+◌, ◌≤◌, ◌≡◌, true, List, [], ◌∷◌, ◌++◌, length, largest}
use Rattle.text.proofs.Prelude.{arith, refl, sym, ap, ◌∙◌, length-append, first, yes≤}
use Rattle.igc_log.specs.Line.{line_text}
use Rattle.igc_log.specs.Log.{Reader, LineRead, chunks, closed, read_from, readings}
use Rattle.igc_log.specs.Fold.{over, Carried, read_on, fed}
use Rattle.igc_log.specs.Fold as fold
use Rattle.igc_log.proofs.Chunks.{chunks_le}
use Rattle.igc_log.proofs.Pieces.{length_readings, made_is, fed_append}
use Rattle.held.specs.Tables.{no_tables}
use Rattle.held.specs.declared.tables.Tables.{Tables}
use Rattle.walk.specs.Readings.{LineReading, reader}
use Rattle.claim.specs.Step.{fresh, claim_step, claim_on_of, verdict_at_end}
use Rattle.claim.specs.Claim.{claim_of}
use Rattle.claim.specs.Laws.{InPieces}
use Rattle.claim.specs.declared.Sofar.{Sofar}
use Rattle.claim.proofs.Stepping.{lines_most}
use Rattle.claim.proofs.Deciding.{decides}

-- ---- a step that looks at a line's text and its answer alone

module _ {A H T : Type 0} (R : Reader A H) (step : T → LineRead A H → T)
    (alone : (a : T) (x y : LineRead A H) → x.line ≡ y.line → x.answer ≡ y.answer → step a x ≡ step a y) where
  -- makes the same of some lines, whatever was read before them
  over_same : (n n' p p' : ℕ) (h h' : H) (a : T) (ks : List (List ℕ)) →
      over step a (read_from R n p h ks) ≡ over step a (read_from R n' p' h' ks)
  unfolding over read_from
  over_same n n' p p' h h' a [] = refl
  over_same n n' p p' h h' a (k ∷ ks) =
      let t = line_text k in
      let x : LineRead A H =
      record { number = n + 1; place = p; line = t; answer = R.read t; held = R.after p h t } in
      let y : LineRead A H =
      record { number = n' + 1; place = p'; line = t; answer = R.read t; held = R.after p' h' t } in
      ap (λ b. over step b (read_from R (n + 1) (p + length k) x.held ks)) (alone a x y refl refl)
      ∙ over_same (n + 1) (n' + 1) (p + length k) (p' + length k) x.held y.held (step a y) ks

-- so does the step of a claim
claim_alone : (c : Sofar) (x y : LineReading) → x.line ≡ y.line → x.answer ≡ y.answer → claim_step c x ≡ claim_step c y
unfolding claim_step
claim_alone c x y l a = rw (l, a)

-- ---- pieces

pub on_taken : (c : Sofar) (s : List ℕ) → c.lines + length s ≤ largest →
    claim_on_of c s ≡ over claim_step c (readings reader s)
unfolding claim_on_of
on_taken c s h = sym (first c (yes≤ h) refl)

-- two pieces
pub over_two : (c : Sofar) (a b : List ℕ) → closed a ≡ true →
    over claim_step (over claim_step c (readings reader a)) (readings reader b)
    ≡ over claim_step c (readings reader (a ++ b))
unfolding readings read_on
over_two c a b h =
    let start = fold.fresh reader c in
    let k = fed reader claim_step start a in
    sym (
    sym (made_is reader claim_step start (a ++ b))
    ∙ ap (λ (c : Carried Tables Sofar). c.made) (fed_append reader claim_step start a b h)
    ∙ made_is reader claim_step k b
    ∙ over_same reader claim_step claim_alone k.number 0 k.place 0 k.held no_tables k.made (chunks b)
    ∙ rw (made_is reader claim_step start a))

-- no more lines than bytes
lines_over : (c : Sofar) (xs : List LineReading) → (over claim_step c xs).lines ≤ c.lines + length xs
unfolding over
lines_over c [] = omega arith
lines_over c (x ∷ xs) = omega (arith, lines_over (claim_step c x) xs, lines_most c x)

lines_on : (c : Sofar) (s : List ℕ) → (over claim_step c (readings reader s)).lines ≤ c.lines + length s
lines_on c s = omega (arith, lines_over c (readings reader s), length_readings reader s, chunks_le s)

two_pieces : (c : Sofar) (a b : List ℕ) → closed a ≡ true → c.lines + length a + length b ≤ largest →
    claim_on_of (claim_on_of c a) b ≡ claim_on_of c (a ++ b)
two_pieces c a b h short =
    let both : c.lines + length (a ++ b) ≡ c.lines + length a + length b = omega (arith, length-append a b) in
    rw (on_taken c a (omega arith), on_taken c (a ++ b) (omega (arith, both)))
    (on_taken _ b (omega (arith, lines_on c a)) ∙ over_two c a b h)

whole_log : (log : List ℕ) → length log ≤ largest → verdict_at_end (claim_on_of fresh log) ≡ claim_of (readings reader log)
unfolding fresh
whole_log log h = rw (on_taken fresh log (omega arith)) (decides.decides (readings reader log))

pub in_pieces : InPieces
in_pieces = record { two = two_pieces; whole = whole_log }
