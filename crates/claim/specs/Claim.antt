-- The verdict on a record claim: yes exactly when all rules hold, and a no names the first line at which one fails.
use Rattle.std.specs.Prelude.{◌+◌}
use Rattle.text.specs.Prelude.{ℕ, zero, suc, Bool, not, List, length, take, pick, ◌∧?◌}
use Rattle.walk.specs.Readings.{LineReading}
use Rattle.claim.specs.Rules.{holds}
use Rattle.claim.specs.declared.{verdict.Rule.Rule, verdict.Verdict.Verdict}

-- All rules hold.
unfoldable pub all_hold : List LineReading → Bool
all_hold xs =
    holds Rule.First xs
    ∧? holds Rule.Table xs
    ∧? holds Rule.Long xs
    ∧? holds Rule.Refused xs
    ∧? holds Rule.Book xs
    ∧? holds Rule.Time xs

-- The first rule, in the order of the request, that does not hold, where one does not.
unfoldable pub first_broken : List LineReading → Rule
first_broken xs =
    pick (not (holds Rule.First xs)) Rule.First
    (pick (not (holds Rule.Table xs)) Rule.Table
    (pick (not (holds Rule.Long xs)) Rule.Long
    (pick (not (holds Rule.Refused xs)) Rule.Refused
    (pick (not (holds Rule.Book xs)) Rule.Book
    Rule.Time))))

-- The least of n numbers from k on for which a test fails; where it fails for none, the number behind them.
unfoldable pub least_not : (ℕ → Bool) → ℕ → ℕ → ℕ
least_not test k zero = k
least_not test k (suc n) = pick (test k) (least_not test (k + 1) n) k

-- The first line at which a rule fails: the least number of lines, from 1 on, of which not all rules hold. A log with
-- no lines fails at line 1.
unfoldable pub failing_line : List LineReading → ℕ
failing_line xs = least_not (λ k. all_hold (take k xs)) 1 (length xs)

-- The verdict on the readings of a log.
unfoldable pub claim_of : List LineReading → Verdict
claim_of xs =
    pick (all_hold xs) Verdict.Yes (Verdict.No (failing_line xs) (first_broken (take (failing_line xs) xs)))
