-- The walk of a claim, a line at a time.
use Rattle.text.specs.Prelude.{ℕ, ◌+◌, ◌≤◌, ◌≡◌, true, false, List, [], ◌∷◌, pick}
use Rattle.text.proofs.Prelude.{arith, refl, sym, ap, ◌∙◌, first, second, by_test}
use Rattle.igc_log.specs.Log.{readings}
use Rattle.igc_log.specs.Fold.{over, fresh}
use Rattle.igc_log.proofs.Pieces.{made_is, all_read}
use Rattle.igc_log.proofs.Reached.{settled}
use Rattle.walk.specs.Readings.{LineReading, reader}
use Rattle.walk.proofs.Turns.{Made}
use Rattle.claim_line.specs.Asked.{asked_of}
use Rattle.claim_line.specs.declared.Asked.{Asked}
use Rattle.claim.specs.Step.{is_yes, line_verdict_of, passed, failed, judged, claim_step}
use Rattle.claim.specs.declared.Sofar.{Sofar}

-- a no stays
pub no_stays : (c : Sofar) (x : LineReading) → is_yes c.verdict ≡ false → claim_step c x ≡ c
unfolding claim_step
no_stays c x n = sym (second _ n refl)

-- whatever follows
pub no_stays_over : (c : Sofar) (xs : List LineReading) → is_yes c.verdict ≡ false → over claim_step c xs ≡ c
unfolding over
no_stays_over c [] n = refl
no_stays_over c (x ∷ xs) n = rw (no_stays c x n) (no_stays_over c xs n)

-- the next line is judged where all before it passed
pub next_judged : (c : Sofar) {r : Sofar} {l : Asked} (x : LineReading) → is_yes c.verdict ≡ true →
    r ≡ judged c l → l ≡ asked_of x.line x.answer → r ≡ claim_step c x
unfolding claim_step
next_judged c x y e a = first _ y (e ∙ ap (judged c) a)

-- a line raises the count of lines by at most one
judged_most : (c : Sofar) (l : Asked) → (judged c l).lines ≤ c.lines + 1
unfolding judged passed failed pick
judged_most c l = by_test (is_yes (line_verdict_of c l)) (λ e. rw e (omega arith)) (λ e. rw e (omega arith))

pub lines_most : (c : Sofar) (x : LineReading) → (claim_step c x).lines ≤ c.lines + 1
unfolding claim_step pick
lines_most c x =
    by_test (is_yes c.verdict) (λ e. rw e (judged_most c (asked_of x.line x.answer))) (λ e. rw e (omega arith))

-- a loop may stop at a no
pub stopped : {a c : Sofar} {s : List ℕ} {at : ℕ} → Made claim_step a s at c → is_yes c.verdict ≡ false →
    c ≡ over claim_step a (readings reader s)
stopped {a} {c} {s} m n =
    settled m.reached (λ x. no_stays c x n) ∙ made_is reader claim_step (fresh reader a) s
    ∙ ap (over claim_step a) (all_read reader claim_step a s)
