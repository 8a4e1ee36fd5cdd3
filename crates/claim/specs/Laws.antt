-- What the verdict says, and that the walk line by line, whatever the pieces of a log, decides it.
use Rattle.std.specs.Prelude.{◌+◌, ◌-◌, ◌≤◌, ◌<◌, ◌≡◌, ◌∷◌, ◌++◌}
use Rattle.text.specs.Prelude.{ℕ, max, true, false, not, List, [], length, take}
use Rattle.text.specs.Prelude.{drop, ◌∧?◌, ◌∨?◌, largest}
use Rattle.igc_log.specs.Line.{has_lf_of}
use Rattle.igc_log.specs.Log.{closed, readings}
use Rattle.igc_log.specs.Fold.{over}
use Rattle.walk.specs.Readings.{LineReading, reader}
use Rattle.claim.specs.Rules.{is_none, holds, breaks}
use Rattle.claim.specs.Claim.{claim_of}
use Rattle.claim.specs.Step.{is_yes, fresh, claim_step, claim_on_of, verdict_at_end}
use Rattle.claim.specs.declared.{verdict.Rule.Rule, verdict.Verdict.Verdict, Sofar.Sofar}

-- The place of a rule in the order of the request.
unfoldable pub order_of : Rule → ℕ
order_of Rule.First = 0
order_of Rule.Table = 1
order_of Rule.Long = 2
order_of Rule.Refused = 3
order_of Rule.Book = 4
order_of Rule.Time = 5

-- At which line a rule fails: with one line more it holds exactly where it held so far and this line does not break it.
-- (The first rule fails of no lines, and is decided by line 1.)
pub record OneMore : Type 0 where
  pub line : (r : Rule) (before : List LineReading) (x : LineReading) →
      holds r (before ++ (x ∷ [])) ≡ ((is_none before ∨? holds r before) ∧? not (breaks r before x))

-- A no with that line and that rule: all rules hold of fewer lines, from 1 on; of so many the rule does not; and those
-- before it in the order do. So the line that is named breaks the rule.
pub record NamesFirst (xs : List LineReading) (k : ℕ) (r : Rule) : Type 0 where
  pub from_one : 1 ≤ k
  pub inside : k ≤ max 1 (length xs)
  pub earlier_lines : (j : ℕ) → 1 ≤ j → j < k → (q : Rule) → holds q (take j xs) ≡ true
  pub fails : holds r (take k xs) ≡ false
  pub earlier_rules : (q : Rule) → order_of q < order_of r → holds q (take k xs) ≡ true
  pub at_line : (x : LineReading) (later : List LineReading) → drop (k - 1) xs ≡ x ∷ later →
      breaks r (take (k - 1) xs) x ≡ true

-- The verdict is yes exactly when all hold, and a no names the first line at which one fails, and the first rule.
pub record Says : Type 0 where
  pub yes : (xs : List LineReading) → claim_of xs ≡ Verdict.Yes → (r : Rule) → holds r xs ≡ true
  pub all : (xs : List LineReading) → ((r : Rule) → holds r xs ≡ true) → claim_of xs ≡ Verdict.Yes
  pub no : (xs : List LineReading) (k : ℕ) (r : Rule) → claim_of xs ≡ Verdict.No k r → NamesFirst xs k r
  -- What follows a line that failed does not matter.
  pub stays : (xs ys : List LineReading) (k : ℕ) (r : Rule) → 1 ≤ length xs → claim_of xs ≡ Verdict.No k r →
      claim_of (xs ++ ys) ≡ Verdict.No k r

-- The walk line by line decides it.
pub record Decides : Type 0 where
  pub decides : (xs : List LineReading) → verdict_at_end (over claim_step fresh xs) ≡ claim_of xs

-- So it does for a log in pieces.
pub record InPieces : Type 0 where
  -- A run of whole lines, and then what follows.
  pub two : (c : Sofar) (a b : List ℕ) → closed a ≡ true → c.lines + length a + length b ≤ largest →
      claim_on_of (claim_on_of c a) b ≡ claim_on_of c (a ++ b)
  -- A whole log, from the start.
  pub whole : (log : List ℕ) → length log ≤ largest →
      verdict_at_end (claim_on_of fresh log) ≡ claim_of (readings reader log)

-- A line of which 78 bytes have come and no end fails, whatever follows: its text has 77 of them at least.
pub record LongFront : Type 0 where
  pub fails : (c : Sofar) (front : List ℕ) → has_lf_of front ≡ false → 78 ≤ length front →
      is_yes (over claim_step c (readings reader front)).verdict ≡ false
  pub stays : (c : Sofar) (front rest : List ℕ) → has_lf_of front ≡ false → 78 ≤ length front →
      over claim_step c (readings reader (front ++ rest)) ≡ over claim_step c (readings reader front)
