-- The walk that decides a claim line by line.
use Rattle.text.specs.Prelude.{None, Option, Some}
use Rattle.std.specs.Prelude.{◌+◌}
use Rattle.text.specs.Prelude.{ℕ, Bool, true, false, not, List, length, pick, ◌≤?◌, ◌=?◌, ◌∧?◌, ◌∨?◌, largest}
use Rattle.igc_log.specs.Log.{readings}
use Rattle.igc_log.specs.Fold.{over}
use Rattle.report.specs.Figures.{earlier}
use Rattle.walk.specs.Readings.{LineReading, reader}
use Rattle.claim_line.specs.Asked.{asked_of}
use Rattle.claim_line.specs.declared.{Asked.Asked}
use Rattle.claim.specs.declared.{verdict.Rule.Rule, verdict.Verdict.Verdict, Sofar.Sofar}

-- The verdict is yes.
unfoldable pub is_yes : Verdict → Bool
is_yes Verdict.Yes = true
is_yes (Verdict.No line rule) = false

-- Before the first line.
unfoldable pub fresh : Sofar
fresh = record {
  lines = 0;
  last = 0;
  back = false;
  i = false;
  j = false;
  b = false;
  verdict = Verdict.Yes;
}

-- ---- one line more

-- A line of a letter where one of it, or a B line, was seen.
unfoldable pub seen_again : Bool → Bool → Bool → Bool
seen_again here one b = here ∧? (one ∨? b)

-- An I or a J line that stands where none may.
unfoldable pub out_of_place : Sofar → Asked → Bool
out_of_place c line = seen_again line.i c.i c.b ∨? seen_again line.j c.j c.b

-- The first line, and no A line.
unfoldable pub no_start : Sofar → Asked → Bool
no_start c line = (c.lines =? 0) ∧? not line.a

-- The second of a line's fix, if it has one, is before the time s.
unfoldable pub comes_before : ℕ → Option ℕ → Bool
comes_before s None = false
comes_before s (Some t) = earlier t s

-- The second time that goes back.
unfoldable pub second_back : Sofar → Asked → Bool
second_back c line = c.back ∧? comes_before c.last line.second

-- The first rule, in the order of the request, that a line breaks which follows on those that passed.
unfoldable pub line_verdict_of : Sofar → Asked → Verdict
line_verdict_of c line =
    pick (no_start c line) (Verdict.No (c.lines + 1) Rule.First)
    (pick (out_of_place c line) (Verdict.No (c.lines + 1) Rule.Table)
    (pick (not line.short) (Verdict.No (c.lines + 1) Rule.Long)
    (pick (not line.accepted) (Verdict.No (c.lines + 1) Rule.Refused)
    (pick (not line.book) (Verdict.No (c.lines + 1) Rule.Book)
    (pick (second_back c line) (Verdict.No (c.lines + 1) Rule.Time)
    Verdict.Yes)))))

-- The last time, with that of a fix, if a line has one.
unfoldable pub last_with_of : ℕ → Option ℕ → ℕ
last_with_of s None = s
last_with_of s (Some t) = t

-- One line more has passed.
unfoldable pub passed : Sofar → Asked → Sofar
passed c line = record {
  lines = c.lines + 1;
  last = last_with_of c.last line.second;
  back = c.back ∨? comes_before c.last line.second;
  i = c.i ∨? line.i;
  j = c.j ∨? line.j;
  b = c.b ∨? line.b;
  verdict = Verdict.Yes;
}

-- A line has not.
unfoldable pub failed : Sofar → Verdict → Sofar
failed c v = record {
  lines = c.lines;
  last = c.last;
  back = c.back;
  i = c.i;
  j = c.j;
  b = c.b;
  verdict = v;
}

-- After a line that follows on those that passed.
unfoldable pub judged : Sofar → Asked → Sofar
judged c line = pick (is_yes (line_verdict_of c line)) (passed c line) (failed c (line_verdict_of c line))

-- After one reading more: a no stays.
unfoldable pub claim_step : Sofar → LineReading → Sofar
claim_step c x = pick (is_yes c.verdict) (judged c (asked_of x.line x.answer)) c

-- ---- a log

-- After some bytes more, which are whole lines or the last of a log; where a line's number could pass 64 bits, nothing
-- is taken.
unfoldable pub claim_on_of : Sofar → List ℕ → Sofar
claim_on_of c s = pick (c.lines + length s ≤? largest) (over claim_step c (readings reader s)) c

-- The verdict, where these were all lines: without any, the first fails.
unfoldable pub verdict_at_end : Sofar → Verdict
verdict_at_end c =
    pick (is_yes c.verdict) (pick (c.lines =? 0) (Verdict.No 1 Rule.First) Verdict.Yes) c.verdict
