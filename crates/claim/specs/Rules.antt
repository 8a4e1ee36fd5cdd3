-- The rules of a record claim, in the order of the request, each a property of all readings of a log by itself; and at
-- which line each fails.
use Rattle.b_record.specs.declared.BRecord.{BRecord}
use Rattle.text.specs.Prelude.{None, Option, Some}
use Rattle.std.specs.Prelude.{◌+◌, ◌∷◌}
use Rattle.text.specs.Prelude.{ℕ, code, Bool, true, false, not, List, [], length, pick, ◌≤?◌, ◌=?◌, ◌∧?◌}
use Rattle.text.specs.Prelude.{◌∨?◌, begins}
use Rattle.time.specs.Time.{seconds_of_lem}
use Rattle.records.specs.Record.{answer_fix}
use Rattle.report.specs.Figures.{earlier}
use Rattle.report.specs.Report.{time_at, shown}
use Rattle.walk.specs.Readings.{LineReading}
use Rattle.claim_line.specs.Asked.{is_accepted_of, is_book_of}
use Rattle.claim.specs.declared.verdict.Rule.{Rule}

-- ---- some things, and a test of one

module _ {X : Type 0} where
  -- How many of them have p.
  unfoldable pub how_many : (X → Bool) → List X → ℕ
  how_many p [] = 0
  how_many p (x ∷ xs) = pick (p x) 1 0 + how_many p xs

  -- One of them has p.
  unfoldable pub some : (X → Bool) → List X → Bool
  some p xs = 1 ≤? how_many p xs

  -- Each of them has p.
  unfoldable pub every : (X → Bool) → List X → Bool
  every p [] = true
  every p (x ∷ xs) = p x ∧? every p xs

  -- None of them that has p stands behind one that has q.
  unfoldable pub none_behind : (X → Bool) → (X → Bool) → List X → Bool
  none_behind p q [] = true
  none_behind p q (x ∷ xs) = not (q x ∧? some p xs) ∧? none_behind p q xs

  -- There is none.
  unfoldable pub is_none : List X → Bool
  is_none xs = length xs =? 0

-- ---- what is asked of a line (whether it is accepted and by the book: `claim_line`)

-- A line of a letter is one that begins so, accepted or not.
unfoldable pub is_line : ℕ → LineReading → Bool
is_line letter x = begins letter x.line

-- Its text has at most 76 bytes. The LF that ends the line, and the one CR directly before it, are not of its text.
unfoldable pub is_short : LineReading → Bool
is_short x = length x.line ≤? 76

-- ---- times

-- How often one of these times, which follow on s, is before the one in front of it. An equal one is not.
unfoldable pub backs_after : ℕ → List ℕ → ℕ
backs_after s [] = 0
backs_after s (t ∷ ts) = pick (earlier t s) 1 0 + backs_after t ts

-- The same of times that follow on none.
unfoldable pub steps_back : List ℕ → ℕ
steps_back [] = 0
steps_back (t ∷ ts) = backs_after t ts

-- The seconds since midnight of the accepted B lines, in order.
unfoldable pub times_of : List LineReading → List ℕ
times_of xs = shown time_at xs

-- ---- the rules

-- The first line is an A line; where there are no lines, none is.
unfoldable pub first_is_a : List LineReading → Bool
first_is_a [] = false
first_is_a (x ∷ xs) = is_line (code "A") x

-- There is at most one line of a letter, and none of it behind a B line.
unfoldable pub once_before_b : ℕ → List LineReading → Bool
once_before_b letter xs =
    (how_many (is_line letter) xs ≤? 1) ∧? none_behind (is_line letter) (is_line (code "B")) xs

-- What a rule says of all readings of a log.
unfoldable pub holds : Rule → List LineReading → Bool
holds Rule.First xs = first_is_a xs
holds Rule.Table xs = once_before_b (code "I") xs ∧? once_before_b (code "J") xs
holds Rule.Long xs = every is_short xs
holds Rule.Refused xs = every (λ x. is_accepted_of x.answer) xs
holds Rule.Book xs = every (λ x. is_book_of x.answer) xs
holds Rule.Time xs = steps_back (times_of xs) ≤? 1

-- ---- at which line it fails

-- The last of these times, which follow on s.
unfoldable pub last_after : ℕ → List ℕ → ℕ
last_after s [] = s
last_after s (t ∷ ts) = last_after t ts

-- The last time so far; where there is none 0, and no time is before that.
unfoldable pub last_time : List LineReading → ℕ
last_time xs = last_after 0 (times_of xs)

-- The fix of a line, if it has one, is before the time s.
unfoldable pub goes_back_of : ℕ → Option BRecord → Bool
goes_back_of s None = false
goes_back_of s (Some b) = earlier (seconds_of_lem b.timestamp) s

-- A line of a letter where one of it, or a B line, stands before.
unfoldable pub is_again_of : ℕ → List LineReading → LineReading → Bool
is_again_of letter before x = is_line letter x ∧? (some (is_line letter) before ∨? some (is_line (code "B")) before)

-- The line x breaks the rule, behind the lines before it: line 1 that is no A line; the second I line, or one behind a
-- B line, and so with J; a line over 76 bytes; one that is not accepted; one not by the book; the second time that goes
-- back.
unfoldable pub breaks : Rule → List LineReading → LineReading → Bool
breaks Rule.First before x = is_none before ∧? not (is_line (code "A") x)
breaks Rule.Table before x = is_again_of (code "I") before x ∨? is_again_of (code "J") before x
breaks Rule.Long before x = not (is_short x)
breaks Rule.Refused before x = not (is_accepted_of x.answer)
breaks Rule.Book before x = not (is_book_of x.answer)
breaks Rule.Time before x =
    (1 ≤? steps_back (times_of before)) ∧? goes_back_of (last_time before) (answer_fix x.answer)
