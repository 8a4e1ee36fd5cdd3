-- Each rule with one line more, and so at which line it fails.
use Rattle.b_record.specs.declared.BRecord.{BRecord}
use Rattle.text.specs.Prelude.{None, Option, Some}
use Rattle.text.specs.Prelude.{ℕ, code, ◌+◌, ◌≡◌, Bool, true, false, not, List, [], ◌∷◌, ◌++◌, pick, ◌≤?◌, ◌=?◌}
use Rattle.text.specs.Prelude.{◌∧?◌, ◌∨?◌}
use Rattle.text.proofs.Prelude.{arith, refl, sym, ◌∙◌, append-nil, append_assoc, yes≤, no≤, no=}
use Rattle.text.proofs.Prelude.{by_test}
use native.Mathlib.Nat.{add-zero, zero-add}
use Rattle.text.proofs.Steps as steps
use Rattle.field.proofs.Every.{∧?-assoc}
use Rattle.records.specs.Record.{answer_fix}
use Rattle.report.specs.Figures.{earlier}
use Rattle.report.specs.Report.{of_fix_of, time_at, shown}
use Rattle.walk.specs.Readings.{LineReading}
use Rattle.claim_line.specs.Asked.{is_accepted_of, is_book_of, second_in_of}
use Rattle.claim.specs.Rules.{how_many, some, every, none_behind, is_none, is_line, backs_after, steps_back, times_of}
use Rattle.claim.specs.Rules.{first_is_a, once_before_b, is_short, last_after, last_time, goes_back_of}
use Rattle.claim.specs.Rules.{holds, is_again_of, breaks}
use Rattle.claim.specs.Step.{comes_before, last_with_of}
use Rattle.claim.specs.Laws.{OneMore}
use Rattle.claim.specs.declared.verdict.Rule.{Rule}
use Rattle.claim.proofs.Tests.{∧?-true, ∧?-false, ∧?-comm, ∨?-true, once_more, behind_tested}
use Rattle.claim.proofs.Tests.{one_more, once_tested, both_tested, not_not}

-- ---- some things, and one more

module _ {X : Type 0} (p : X → Bool) where
  how_many_more : (xs : List X) (x : X) → how_many p (xs ++ (x ∷ [])) ≡ how_many p xs + pick (p x) 1 0
  unfolding how_many
  how_many_more [] x = omega arith
  how_many_more (y ∷ xs) x = omega (arith, how_many_more xs x)

  pub some_more : (xs : List X) (x : X) → some p (xs ++ (x ∷ [])) ≡ (some p xs ∨? p x)
  unfolding some
  some_more xs x = rw (how_many_more xs x) (one_more (how_many p xs) (p x))

  some_cons : (x : X) (xs : List X) → some p (x ∷ xs) ≡ (p x ∨? some p xs)
  unfolding some how_many pick ◌∨?◌
  some_cons x xs = by_test (p x) (λ e. rw e (yes≤ (omega arith))) (λ e. rw (e, zero-add (how_many p xs)))

  every_more : (xs : List X) (x : X) → every p (xs ++ (x ∷ [])) ≡ (every p xs ∧? p x)
  unfolding every
  every_more [] x = ∧?-true (p x) ∙ sym (steps.holds refl refl)
  every_more (y ∷ xs) x = rw (every_more xs x) (sym (∧?-assoc (p y) (every p xs) (p x)))

none_behind_more : {X : Type 0} (p q : X → Bool) (xs : List X) (x : X) →
    none_behind p q (xs ++ (x ∷ [])) ≡ (none_behind p q xs ∧? not (p x ∧? some q xs))
unfolding none_behind some how_many ◌≤?◌
none_behind_more p q [] x = rw (∧?-false (q x), ∧?-false (p x))
none_behind_more p q (y ∷ xs) x =
    rw (some_more p xs x, none_behind_more p q xs x, some_cons q y xs)
    (behind_tested (q y) (some p xs) (p x) (none_behind p q xs) (some q xs))

-- a letter
once_more_line : (letter : ℕ) (xs : List LineReading) (x : LineReading) →
    once_before_b letter (xs ++ (x ∷ [])) ≡ (once_before_b letter xs ∧? not (is_again_of letter xs x))
unfolding once_before_b is_again_of some
once_more_line letter xs x =
    let p = is_line letter in
    let b = is_line (code "B") in
    rw (how_many_more p xs x, once_more (how_many p xs) (p x), none_behind_more p b xs x)
    (once_tested (how_many p xs ≤? 1) (none_behind p b xs) (p x) (some p xs) (some b xs))

-- ---- times, and one more

backs_append : (s : ℕ) (ts us : List ℕ) →
    backs_after s (ts ++ us) ≡ backs_after s ts + backs_after (last_after s ts) us
unfolding backs_after last_after
backs_append s [] us = omega arith
backs_append s (t ∷ ts) us = omega (arith, backs_append t ts us)

last_append : (s : ℕ) (ts us : List ℕ) → last_after s (ts ++ us) ≡ last_after (last_after s ts) us
unfolding last_after
last_append s [] us = refl
last_append s (t ∷ ts) us = last_append t ts us

-- no time is before 0
backs_from_none : (ts : List ℕ) → steps_back ts ≡ backs_after 0 ts
unfolding steps_back backs_after earlier pick
backs_from_none [] = refl
backs_from_none (t ∷ ts) =
    let e : (t + 1 ≤? 0) ≡ false = no≤ (omega arith) in rw (e, zero-add (backs_after t ts))

-- the times of one line
abbrev time_in : LineReading → List ℕ
time_in x = of_fix_of (time_at x.place) (answer_fix x.answer)

times_more : (xs : List LineReading) (x : LineReading) → times_of (xs ++ (x ∷ [])) ≡ times_of xs ++ time_in x
unfolding times_of shown
times_more [] x = append-nil (time_in x)
times_more (y ∷ xs) x = rw (times_more xs x, append_assoc)

one_back : (s p : ℕ) (m : (Option BRecord)) → backs_after s (of_fix_of (time_at p) m) ≡ pick (goes_back_of s m) 1 0
unfolding of_fix_of time_at backs_after goes_back_of pick
one_back s p None = refl
one_back s p (Some b) = add-zero _

-- the step asks it of the second alone
pub goes_back : (s : ℕ) (m : (Option BRecord)) → comes_before s (second_in_of m) ≡ goes_back_of s m
unfolding comes_before second_in_of goes_back_of
goes_back s None = refl
goes_back s (Some b) = refl

one_last : (s p : ℕ) (m : (Option BRecord)) → last_after s (of_fix_of (time_at p) m) ≡ last_with_of s (second_in_of m)
unfolding of_fix_of time_at last_after last_with_of second_in_of
one_last s p None = refl
one_last s p (Some b) = refl

pub backs_more : (xs : List LineReading) (x : LineReading) →
    steps_back (times_of (xs ++ (x ∷ [])))
    ≡ steps_back (times_of xs) + pick (goes_back_of (last_time xs) (answer_fix x.answer)) 1 0
unfolding last_time
backs_more xs x =
    rw (
      times_more xs x,
      backs_from_none (times_of xs ++ time_in x),
      backs_from_none (times_of xs),
      backs_append 0 (times_of xs) (time_in x),
      one_back (last_after 0 (times_of xs)) x.place (answer_fix x.answer),
    )

pub last_more : (xs : List LineReading) (x : LineReading) →
    last_time (xs ++ (x ∷ [])) ≡ last_with_of (last_time xs) (second_in_of (answer_fix x.answer))
unfolding last_time
last_more xs x =
    rw (times_more xs x, last_append 0 (times_of xs) (time_in x)) (one_last _ x.place (answer_fix x.answer))

-- ---- the rules

-- there are lines
pub some_lines : (x : LineReading) (xs : List LineReading) → is_none (x ∷ xs) ≡ false
unfolding is_none
some_lines x xs = no= (λ e. omega (arith, e))

-- a rule that no lines break holds so far, or there are none
held_so_far : (r : Rule) (xs : List LineReading) → holds r [] ≡ true → (is_none xs ∨? holds r xs) ≡ holds r xs
unfolding ◌∨?◌ pick
held_so_far r [] h = rw h (∨?-true (is_none []))
held_so_far r (x ∷ xs) h = rw (some_lines x xs)

-- as these are
no_tables_lem : holds Rule.Table [] ≡ true
unfolding holds once_before_b how_many none_behind ◌≤?◌ ◌∧?◌ pick
no_tables_lem = refl

none_long : holds Rule.Long [] ≡ true
unfolding holds every
none_long = refl

none_refused : holds Rule.Refused [] ≡ true
unfolding holds every
none_refused = refl

none_off_book : holds Rule.Book [] ≡ true
unfolding holds every
none_off_book = refl

no_times : holds Rule.Time [] ≡ true
unfolding holds times_of shown steps_back ◌≤?◌
no_times = refl

-- one line more, of the first rule
first_more : (before : List LineReading) (x : LineReading) →
    first_is_a (before ++ (x ∷ []))
    ≡ ((is_none before ∨? first_is_a before) ∧? not (is_none before ∧? not (is_line (code "A") x)))
unfolding first_is_a is_none ◌∨?◌ ◌∧?◌ pick ◌=?◌
first_more [] x = sym (not_not (is_line (code "A") x))
first_more (y ∷ ys) x = rw (some_lines y ys) (sym (∧?-true (is_line (code "A") y)))

-- of a rule that is asked of each line
each_more : (p : LineReading → Bool) (before : List LineReading) (x : LineReading) →
    every p (before ++ (x ∷ [])) ≡ (every p before ∧? not (not (p x)))
each_more p before x = rw (not_not (p x)) (every_more p before x)

-- of each rule
line_more : (r : Rule) (before : List LineReading) (x : LineReading) →
    holds r (before ++ (x ∷ [])) ≡ ((is_none before ∨? holds r before) ∧? not (breaks r before x))
unfolding holds breaks
line_more Rule.First before x = first_more before x
line_more Rule.Table before x =
    rw (
      held_so_far Rule.Table before no_tables_lem,
      once_more_line (code "I") before x,
      once_more_line (code "J") before x,
    ) (both_tested (once_before_b (code "I") before) (once_before_b (code "J") before) _ _)
line_more Rule.Long before x = rw (held_so_far Rule.Long before none_long) (each_more is_short before x)
line_more Rule.Refused before x =
    rw (held_so_far Rule.Refused before none_refused) (each_more (λ x. is_accepted_of x.answer) before x)
line_more Rule.Book before x =
    rw (held_so_far Rule.Book before none_off_book) (each_more (λ x. is_book_of x.answer) before x)
line_more Rule.Time before x =
    let back = goes_back_of (last_time before) (answer_fix x.answer) in
    rw (
      held_so_far Rule.Time before no_times,
      backs_more before x,
      ∧?-comm (1 ≤? steps_back (times_of before)) back,
    ) (once_more (steps_back (times_of before)) back)

pub one_more_line : OneMore
one_more_line = record { line = line_more }
