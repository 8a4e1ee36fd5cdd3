-- The walk decides the claim: at each line it holds what the lines before it come to.
use Rattle.text.specs.Prelude.{ℕ, suc, code, ◌+◌, ◌≡◌, Bool, true, false, not, List, [], ◌∷◌, ◌++◌, length, take}
use Rattle.text.specs.Prelude.{pick, ◌≤?◌, ◌=?◌, ◌∧?◌, ◌∨?◌}
use Rattle.text.proofs.Prelude.{arith, refl, sym, ap, ◌∙◌, append-nil, append_assoc, length-append, take_at, and, both}
use Rattle.text.proofs.Prelude.{first, second, no=, by_test, never}
use Rattle.records.specs.Record.{answer_fix}
use Rattle.report.specs.Report.{shown}
use Rattle.igc_log.specs.Fold.{over}
use Rattle.walk.specs.Readings.{LineReading}
use Rattle.claim_line.specs.Asked.{asked_of}
use Rattle.claim.specs.Rules.{some, is_none, is_line, is_short, steps_back, times_of, last_time, is_again_of, holds}
use Rattle.claim.specs.Rules.{breaks, first_is_a, how_many, last_after}
use Rattle.claim.specs.Claim.{all_hold, first_broken, least_not, failing_line, claim_of}
use Rattle.claim.specs.Step.{is_yes, fresh, seen_again, out_of_place, no_start, second_back, line_verdict_of, passed}
use Rattle.claim.specs.Step.{failed}
use Rattle.claim.specs.Step.{judged, claim_step, verdict_at_end}
use Rattle.claim.specs.Laws.{Decides}
use Rattle.claim.specs.declared.{verdict.Rule.Rule, verdict.Verdict.Verdict, Sofar.Sofar}
use Rattle.claim.proofs.Tests.{∨?-true, one_more, broken_here}
use Rattle.claim.proofs.Lines.{some_more, backs_more, goes_back, last_more, some_lines, one_more_line}
use Rattle.claim.proofs.Stepping.{no_stays_over}

-- ---- all rules

pub holds_all : (xs : List LineReading) → ((r : Rule) → holds r xs ≡ true) → all_hold xs ≡ true
unfolding all_hold
holds_all xs h =
    and (h Rule.First)
    (and (h Rule.Table) (and (h Rule.Long) (and (h Rule.Refused) (and (h Rule.Book) (h Rule.Time)))))

pub all_holds : (xs : List LineReading) → all_hold xs ≡ true → (r : Rule) → holds r xs ≡ true
unfolding all_hold
all_holds xs h Rule.First = (both h).0
all_holds xs h Rule.Table = (both (both h).1).0
all_holds xs h Rule.Long = (both (both (both h).1).1).0
all_holds xs h Rule.Refused = (both (both (both (both h).1).1).1).0
all_holds xs h Rule.Book = (both (both (both (both (both h).1).1).1).1).0
all_holds xs h Rule.Time = (both (both (both (both (both h).1).1).1).1).1

-- a line and the first rule that does not hold of some lines, where one does not
abbrev no_at : ℕ → List LineReading → Verdict
no_at n xs = pick (all_hold xs) Verdict.Yes (Verdict.No n (first_broken xs))

verdict_row : (n : ℕ) (a b c d e f : Bool) →
    pick (not a) (Verdict.No n Rule.First)
    (pick (not b) (Verdict.No n Rule.Table)
    (pick (not c) (Verdict.No n Rule.Long)
    (pick (not d) (Verdict.No n Rule.Refused)
    (pick (not e) (Verdict.No n Rule.Book)
    (pick (not f) (Verdict.No n Rule.Time)
    Verdict.Yes)))))
    ≡ pick (a ∧? b ∧? c ∧? d ∧? e ∧? f) Verdict.Yes (Verdict.No n
    (pick (not a) Rule.First
    (pick (not b) Rule.Table
    (pick (not c) Rule.Long
    (pick (not d) Rule.Refused
    (pick (not e) Rule.Book
    Rule.Time))))))
unfolding ◌∧?◌ pick
verdict_row n false b c d e f = refl
verdict_row n true false c d e f = refl
verdict_row n true true false d e f = refl
verdict_row n true true true false e f = refl
verdict_row n true true true true false f = refl
verdict_row n true true true true true false = refl
verdict_row n true true true true true true = refl

-- ---- one line more

-- what lines that all passed come to
abbrev summary : List LineReading → Sofar
summary xs = record {
  verdict = Verdict.Yes;
  lines = length xs;
  last = last_time xs;
  back = 1 ≤? steps_back (times_of xs);
  i = some (is_line (code "I")) xs;
  j = some (is_line (code "J")) xs;
  b = some (is_line (code "B")) xs;
}

-- no rule is broken so far
abbrev Fine : List LineReading → Type 0
Fine xs = (r : Rule) → (is_none xs ∨? holds r xs) ≡ true

fine_held : (xs : List LineReading) → all_hold xs ≡ true → Fine xs
fine_held xs h r = rw (all_holds xs h r) (∨?-true (is_none xs))

module _ (before : List LineReading) (x : LineReading) where
  -- the lines with this one
  abbrev with : List LineReading
  with = before ++ (x ∷ [])

  -- what is asked of this line, by the rules
  tests_are : line_verdict_of (summary before) (asked_of x.line x.answer)
      ≡ pick (breaks Rule.First before x) (Verdict.No (length before + 1) Rule.First)
      (pick (breaks Rule.Table before x) (Verdict.No (length before + 1) Rule.Table)
      (pick (breaks Rule.Long before x) (Verdict.No (length before + 1) Rule.Long)
      (pick (breaks Rule.Refused before x) (Verdict.No (length before + 1) Rule.Refused)
      (pick (breaks Rule.Book before x) (Verdict.No (length before + 1) Rule.Book)
      (pick (breaks Rule.Time before x) (Verdict.No (length before + 1) Rule.Time)
      Verdict.Yes)))))
  unfolding asked_of line_verdict_of no_start out_of_place seen_again second_back breaks is_again_of is_line is_none is_short
  tests_are = rw (goes_back (last_time before) (answer_fix x.answer))

  line_judged : Fine before →
      line_verdict_of (summary before) (asked_of x.line x.answer) ≡ no_at (length before + 1) with
  unfolding all_hold first_broken
  line_judged f =
      let h : (r : Rule) → breaks r before x ≡ not (holds r with) =
      λ r. broken_here (f r) (one_more_line.line r before x) in
      tests_are ∙ rw (h Rule.First, h Rule.Table, h Rule.Long, h Rule.Refused, h Rule.Book, h Rule.Time)
      (verdict_row _ _ _ _ _ _ _)

  passed_is : passed (summary before) (asked_of x.line x.answer) ≡ summary with
  unfolding asked_of passed is_line
  passed_is =
      rw (
        length-append before (x ∷ []),
        last_more before x,
        goes_back (last_time before) (answer_fix x.answer),
        backs_more before x,
        one_more (steps_back (times_of before)) _,
        some_more (is_line (code "I")) before x,
        some_more (is_line (code "J")) before x,
        some_more (is_line (code "B")) before x,
      )

  -- it passes,
  step_passes : Fine before → all_hold with ≡ true → claim_step (summary before) x ≡ summary with
  unfolding claim_step judged is_yes pick
  step_passes f h = rw (line_judged f, h) passed_is

  -- or it fails
  step_fails : Fine before → all_hold with ≡ false →
      claim_step (summary before) x ≡ failed (summary before) (Verdict.No (length before + 1) (first_broken with))
  unfolding claim_step judged is_yes pick
  step_fails f h = rw (line_judged f, h)

-- ---- from line to line

-- a rule that holds of some lines holds of the first of them
holds_of_first : (r : Rule) (x : LineReading) (xs ys : List LineReading) → holds r ((x ∷ xs) ++ ys) ≡ true →
    holds r (x ∷ xs) ≡ true
unfolding ◌∨?◌ pick
holds_of_first r x xs [] h = rw (append-nil (x ∷ xs)) at h
holds_of_first r x xs (y ∷ ys) h =
    let more = holds_of_first r x (xs ++ (y ∷ [])) ys (rw (append_assoc (x ∷ xs) (y ∷ []) ys) h) in
    rw (some_lines x xs) at (both (sym (one_more_line.line r (x ∷ xs) y) ∙ more)).0

all_of_first : (x : LineReading) (xs ys : List LineReading) → all_hold ((x ∷ xs) ++ ys) ≡ true → all_hold (x ∷ xs) ≡ true
all_of_first x xs ys h = holds_all (x ∷ xs) (λ r. holds_of_first r x xs ys (all_holds ((x ∷ xs) ++ ys) h r))

-- so of lines that fail more fail
more_fail : (before ys : List LineReading) (x : LineReading) → all_hold (before ++ (x ∷ [])) ≡ false →
    all_hold (before ++ (x ∷ ys)) ≡ false
more_fail [] ys x n =
    by_test (all_hold (x ∷ ys)) (λ h. never (all_of_first x [] ys h) n) (λ h. h)
more_fail (b ∷ bs) ys x n =
    by_test (all_hold ((b ∷ bs) ++ (x ∷ ys)))
    (λ h. never (all_of_first b (bs ++ (x ∷ [])) ys (rw (append_assoc (b ∷ bs) (x ∷ []) ys) h)) n)
    (λ h. h)

-- the verdict on all lines, with that line where one fails
abbrev verdict_at : List LineReading → ℕ → Verdict
verdict_at xs line = pick (all_hold xs) Verdict.Yes (Verdict.No line (first_broken (take line xs)))

-- the first line from k on at which one fails
abbrev line_from : List LineReading → ℕ → ℕ → ℕ
line_from xs k n = least_not (λ k. all_hold (take k xs)) k n

-- after the last line
walks_none : Fine [] → verdict_at_end (summary []) ≡ verdict_at [] 1
unfolding verdict_at_end is_yes all_hold holds first_is_a first_broken ◌∧?◌ pick ◌=?◌
walks_none f = refl

walks_end : (before : List LineReading) → Fine before →
    verdict_at_end (summary before) ≡ verdict_at before (line_from before (length before + 1) 0)
unfolding verdict_at_end is_yes pick least_not ◌∨?◌
walks_end [] f = walks_none f
walks_end (x ∷ xs) f =
    let h : all_hold (x ∷ xs) ≡ true = holds_all (x ∷ xs) (λ r. rw (some_lines x xs) at (f r)) in
    sym (second _ (no= (λ e. omega (arith, e))) refl) ∙ first _ h refl

-- the test holds of k, or it does not
least_later : (t : ℕ → Bool) (k n : ℕ) → t k ≡ true → least_not t k (suc n) ≡ least_not t (k + 1) n
unfolding least_not pick
least_later t k n h = rw h

least_here : (t : ℕ → Bool) (k n : ℕ) → t k ≡ false → least_not t k (suc n) ≡ k
unfolding least_not pick
least_here t k n h = rw h

module _ (before ys : List LineReading) (x : LineReading) where
  -- this line, and all
  abbrev number : ℕ
  number = length before + 1

  abbrev all : List LineReading
  all = before ++ (x ∷ ys)

  first_of_all : take number all ≡ before ++ (x ∷ [])
  first_of_all =
      rw (← append_assoc before (x ∷ []) ys) (take_at (before ++ (x ∷ [])) ys number (length-append before (x ∷ [])))

  -- where it passes the first that fails is a later one
  later_fails : all_hold (before ++ (x ∷ [])) ≡ true →
      verdict_at ((before ++ (x ∷ [])) ++ ys)
      (line_from ((before ++ (x ∷ [])) ++ ys) (length (before ++ (x ∷ [])) + 1) (length ys))
      ≡ verdict_at all (line_from all number (suc (length ys)))
  later_fails h =
      rw (append_assoc before (x ∷ []) ys, length-append before (x ∷ []))
      (ap (verdict_at all) (sym (least_later (λ k. all_hold (take k all)) number (length ys) (rw first_of_all h))))

  -- and where it fails it is the first
  first_fails : all_hold (before ++ (x ∷ [])) ≡ false →
      Verdict.No number (first_broken (before ++ (x ∷ []))) ≡ verdict_at all (line_from all number (suc (length ys)))
  first_fails h =
      second _ (more_fail before ys x h)
      (rw (least_here (λ k. all_hold (take k all)) number (length ys) (rw first_of_all h), first_of_all))

  -- what is held then
  abbrev fallen : Sofar
  fallen = failed (summary before) (Verdict.No number (first_broken (before ++ (x ∷ []))))

  fails_at_end : verdict_at_end fallen ≡ Verdict.No number (first_broken (before ++ (x ∷ [])))
  unfolding verdict_at_end failed is_yes pick
  fails_at_end = refl

  fallen_no : is_yes fallen.verdict ≡ false
  unfolding failed is_yes
  fallen_no = refl

walks : (before rest : List LineReading) → Fine before →
    verdict_at_end (over claim_step (summary before) rest)
    ≡ verdict_at (before ++ rest) (line_from (before ++ rest) (length before + 1) (length rest))
unfolding over
walks before [] f = rw (append-nil before) (walks_end before f)
walks before (x ∷ ys) f =
    by_test (all_hold (before ++ (x ∷ [])))
    (λ h. rw (step_passes before x f h)
    (walks (before ++ (x ∷ [])) ys (fine_held (before ++ (x ∷ [])) h) ∙ later_fails before ys x h))
    (λ h. rw (step_fails before x f h, no_stays_over (fallen before ys x) ys (fallen_no before ys x))
    (fails_at_end before ys x ∙ first_fails before ys x h))

-- ---- from the start

nothing_seen : fresh ≡ summary []
unfolding fresh some how_many last_time last_after times_of shown steps_back ◌≤?◌
nothing_seen = refl

fine_at_first : Fine []
unfolding is_none ◌=?◌ ◌∨?◌ pick
fine_at_first r = refl

decided : (xs : List LineReading) → verdict_at_end (over claim_step fresh xs) ≡ claim_of xs
unfolding claim_of failing_line
decided xs = rw nothing_seen (walks [] xs fine_at_first)

pub decides : Decides
decides = record { decides = decided }
