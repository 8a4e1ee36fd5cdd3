-- A line of which so many bytes have come, and no end, fails whatever follows.
use Rattle.text.specs.Prelude.{ℕ, suc, code, ◌+◌, ◌-◌, ◌≤◌, ◌≡◌, Bool, true, false, not, List, [], ◌∷◌, ◌++◌, length}
use Rattle.text.specs.Prelude.{Res, pick, ◌=?◌, ◌≤?◌, ◌∧?◌, ◌∨?◌, LF, CR, byte, begins}
use Rattle.text.proofs.Prelude.{arith, refl, sym, ◌∙◌, length-take-le, get_or-take, holds, yes≤, no≤}
use Rattle.text.proofs.Prelude.{append-nil, isnt≤, by_test}
use Rattle.records.specs.declared.Record.{Record}
use Rattle.igc_log.specs.Line.{up_to, has_lf_of, end_of, text_length, line_text}
use Rattle.igc_log.specs.Log.{read_from, readings}
use Rattle.igc_log.specs.Fold.{over}
use Rattle.igc_log.proofs.Chunks.{chunks_some}
use Rattle.igc_log.proofs.Ends.{text_length_le, line_text_first}
use Rattle.walk.specs.Readings.{LineReading, reader}
use Rattle.claim_line.specs.Asked.{asked_of}
use Rattle.claim.specs.Step.{is_yes, seen_again, out_of_place, no_start, line_verdict_of, failed, judged, claim_step}
use Rattle.claim.specs.Laws.{LongFront}
use Rattle.claim.specs.declared.{verdict.Rule.Rule, verdict.Verdict.Verdict, Sofar.Sofar}
use Rattle.claim.proofs.Stepping.{no_stays_over}

-- ---- the text of such a line

-- the first LF is behind bytes that have none
lf_behind : (front rest : List ℕ) → length front ≤ up_to front → length front ≤ up_to (front ++ rest)
unfolding up_to pick
lf_behind [] rest h = omega arith
lf_behind (b ∷ s) rest h =
    by_test (b =? LF)
    (λ e. let z : suc (length s) ≤ 0 = rw e at h in let f : ⊥ = omega arith in absurd f)
    (λ e. let z : suc (length s) ≤ suc (up_to s) = rw e at h in rw e (omega (arith, lf_behind s rest (omega arith))))

-- at most a CR before it is left out
end_near : (lf : ℕ) (s : List ℕ) → lf ≤ end_of 0 lf s + 1
unfolding end_of pick
end_near lf s =
    by_test ((1 ≤? lf) ∧? (byte (lf - 1) s =? CR)) (λ e. rw e (omega arith)) (λ e. rw e (omega arith))

text_long : (front rest : List ℕ) → has_lf_of front ≡ false → 78 ≤ length front → 77 ≤ text_length (front ++ rest)
unfolding text_length has_lf_of pick
text_long front rest n h =
    let s = front ++ rest in
    let far = lf_behind front rest (omega (arith, isnt≤ n)) in
    by_test (has_lf_of s) (λ e. rw e (omega (arith, far, end_near (up_to s) s))) (λ e. rw e (omega (arith, far)))

module _ (b : ℕ) (s : List ℕ) (long : 77 ≤ text_length (b ∷ s)) where
  line_long : 77 ≤ length (line_text (b ∷ s))
  unfolding line_text
  line_long = rw (length-take-le (text_length (b ∷ s)) (b ∷ s) (text_length_le (b ∷ s))) long

  -- it begins as the bytes do
  line_begins : (letter : ℕ) → begins letter (line_text (b ∷ s)) ≡ (b =? letter)
  unfolding begins line_text
  line_begins letter =
      holds (yes≤ (omega (arith, line_long))) (rw (get_or-take (text_length (b ∷ s)) (b ∷ s) 0 0 (omega arith)))

-- ---- and what becomes of it

-- the rule that a line of 77 bytes breaks first, which begins with b
unfoldable front_verdict : Sofar → ℕ → Verdict
front_verdict c b =
    pick ((c.lines =? 0) ∧? not (b =? code "A")) (Verdict.No (c.lines + 1) Rule.First)
    (pick (((b =? code "I") ∧? (c.i ∨? c.b)) ∨? ((b =? code "J") ∧? (c.j ∨? c.b)))
    (Verdict.No (c.lines + 1) Rule.Table)
    (Verdict.No (c.lines + 1) Rule.Long))

one_of_three : (n : ℕ) (s t : Bool) →
    is_yes (pick s (Verdict.No n Rule.First) (pick t (Verdict.No n Rule.Table) (Verdict.No n Rule.Long))) ≡ false
unfolding is_yes pick
one_of_three n true t = refl
one_of_three n false true = refl
one_of_three n false false = refl

front_no : (c : Sofar) (b : ℕ) → is_yes (front_verdict c b) ≡ false
unfolding front_verdict
front_no c b = one_of_three _ _ _

front_judged : (c : Sofar) (b : ℕ) (l : List ℕ) (m : Res Record) → ((letter : ℕ) → begins letter l ≡ (b =? letter)) →
    77 ≤ length l → line_verdict_of c (asked_of l m) ≡ front_verdict c b
unfolding asked_of line_verdict_of no_start out_of_place seen_again front_verdict pick
front_judged c b l m h long =
    let over76 : (length l ≤? 76) ≡ false = no≤ (omega arith) in
    rw (h (code "A"), h (code "I"), h (code "J"), over76)

-- what is held behind it
unfoldable front_step : Sofar → ℕ → Sofar
front_step c b = pick (is_yes c.verdict) (failed c (front_verdict c b)) c

step_no : (c : Sofar) (b : ℕ) → is_yes (front_step c b).verdict ≡ false
unfolding front_step failed pick
step_no c b = by_test (is_yes c.verdict) (λ e. rw e (front_no c b)) (λ e. rw e e)

step_front : (c : Sofar) (b : ℕ) (x : LineReading) → ((letter : ℕ) → begins letter x.line ≡ (b =? letter)) →
    77 ≤ length x.line → claim_step c x ≡ front_step c b
unfolding claim_step judged front_step pick
step_front c b x h long = rw (front_judged c b x.line x.answer h long, front_no c b)

first_front : (c : Sofar) (b : ℕ) (x : LineReading) (xs : List LineReading) →
    ((letter : ℕ) → begins letter x.line ≡ (b =? letter)) → 77 ≤ length x.line →
    over claim_step c (x ∷ xs) ≡ front_step c b
unfolding over
first_front c b x xs h long = rw (step_front c b x h long) (no_stays_over (front_step c b) xs (step_no c b))

over_front : (c : Sofar) (b : ℕ) (s : List ℕ) → 77 ≤ text_length (b ∷ s) →
    over claim_step c (readings reader (b ∷ s)) ≡ front_step c b
unfolding readings read_from
over_front c b s long =
    rw (chunks_some (b ∷ s) (omega arith), line_text_first (b ∷ s))
    (first_front c b _ _ (line_begins b s long) (line_long b s long))

front_fails : (c : Sofar) (front : List ℕ) → has_lf_of front ≡ false → 78 ≤ length front →
    is_yes (over claim_step c (readings reader front)).verdict ≡ false
front_fails c [] n h = let f : ⊥ = omega arith in absurd f
front_fails c (b ∷ s) n h =
    let long = rw (append-nil (b ∷ s)) at (text_long (b ∷ s) [] n h) in rw (over_front c b s long) (step_no c b)

front_stays : (c : Sofar) (front rest : List ℕ) → has_lf_of front ≡ false → 78 ≤ length front →
    over claim_step c (readings reader (front ++ rest)) ≡ over claim_step c (readings reader front)
front_stays c [] rest n h = let f : ⊥ = omega arith in absurd f
front_stays c (b ∷ s) rest n h =
    let long = rw (append-nil (b ∷ s)) at (text_long (b ∷ s) [] n h) in
    over_front c b (s ++ rest) (text_long (b ∷ s) rest n h) ∙ sym (over_front c b s long)

pub long_front : LongFront
long_front = record { fails = front_fails; stays = front_stays }
