-- What is timed: figures over the readings of a fresh walk, in 64 bits.
use Rattle.report.specs.Peak.{GpsPeak, PressurePeak}
use Rattle.text.specs.Prelude.{None, Option, Some}
use Rattle.std.specs.Prelude.{◌+◌, ◌%◌, ◌^◌, ◌≡◌}
use Rattle.text.specs.Prelude.{ℕ, List, length, ℤ, pos, negsuc, Res, ok, no, byte}
use Rattle.part.specs.Part.{bytes_of, shown}
use Rattle.field.specs.declared.Mnemonic.{Mnemonic}
use Rattle.print.specs.Print.{answer_to, left_by}
use Rattle.time.specs.Time.{seconds_of_lem}
use Rattle.b_record.specs.declared.BRecord.{BRecord}
use Rattle.records.specs.Record.{record_fix, answer_fix}
use Rattle.records.specs.declared.{Record.Record}
use Rattle.record_print.specs.Printed.{answer_printed}
use Rattle.held.specs.Held.{look_up}
use Rattle.held.specs.declared.Held.{Held}
use Rattle.igc_log.specs.Log.{readings}
use Rattle.igc_log.specs.Fold.{over}
use Rattle.report.specs.Range.{Range, none, between}
use Rattle.report.specs.Figures.{Figures}
use Rattle.report.specs.Report.{report_of}
use Rattle.walk.specs.Readings.{LineReading, reader}

-- A sum, as 64 bits hold it.
unfoldable pub summed : ℕ → ℕ → ℕ
summed a b = (a + b) % 2 ^ 64

-- A height, and 0 where it is below 0.
unfoldable pub above : ℤ → ℕ
above (pos n) = n
above (negsuc n) = 0

-- Of a fix its time, its minutes and its heights.
unfoldable pub of_fix_of : BRecord → ℕ
of_fix_of b =
    seconds_of_lem b.timestamp
    + (b.pos.lat.0.minute_thousandths + b.pos.lon.0.minute_thousandths)
    + (above b.pressure_alt.0 + above b.gps_alt.0)

-- Of an accepted record: of a fix these, of any other 1.
unfoldable pub of_accepted : Option BRecord → ℕ
of_accepted (Some b) = of_fix_of b
of_accepted None = 1

-- Of a refused line 0.
unfoldable pub of_answer : Res Record → ℕ
of_answer (ok r) = of_accepted (record_fix r)
of_answer (no n) = 0

-- Of the highest and the lowest, by what f tells of each; where there is none 0.
unfoldable pub of_range : {P : Type 0} → (P → ℕ) → Range P → ℕ
of_range f none = 0
of_range f (between high low) = summed (f high) (f low)

-- Of a report its lines and fixes, its heights and its times.
unfoldable pub of_figures : Figures PressurePeak GpsPeak → ℕ
of_figures f =
    summed
    (summed (summed f.lines f.fixes)
    (summed (of_range (λ p. above p.height.0) f.pressure) (of_range (λ p. above p.height.0) f.gps)))
    (of_range (λ t. t) f.times)

-- Of a value: its length and its first byte.
unfoldable pub of_value_of : List ℕ → ℕ
of_value_of v = summed (length v) (byte 0 v)

-- Of what a name finds on a fix; where there is none 0.
unfoldable pub of_named_of : Mnemonic → Held → Option BRecord → List ℕ → ℕ
of_named_of name h (Some b) s = of_value_of (bytes_of (shown (look_up 35 b.rest h name s)) s)
of_named_of name h None s = 0

-- The length that a printer wrote; 0 where it refused.
unfoldable pub written_length : Res ℕ → ℕ
written_length (ok n) = n
written_length (no n) = 0

-- The bytes b became b' where the text m was printed into them; r is the length written.
pub record PrintedLine (m : Res (List ℕ)) (b b' : List ℕ) (r : ℕ) : Type 0 where
  pub answer : r ≡ written_length (answer_to m b)
  pub left : b' ≡ left_by m b

-- ---- a line

-- One reading more in the sum of answers.
unfoldable pub read_step : ℕ → LineReading → ℕ
read_step n x = summed n (of_answer x.answer)

-- The same, with the value of a name on fixes.
unfoldable pub look_up_step : Mnemonic → ℕ → LineReading → ℕ
look_up_step name n x = summed (summed n (of_answer x.answer))
    (of_named_of name x.held.i (answer_fix x.answer) x.line)

-- The lengths of the texts printed, and the bytes in which each was printed in its turn.
pub record Out : Type 0 where
  pub sum : ℕ
  pub bytes : List ℕ

-- One reading more printed, and its length in the sum.
unfoldable pub print_step : Out → LineReading → Out
print_step o x = let text = answer_printed x.answer x.line in record {
  sum = summed o.sum (written_length (answer_to text o.bytes));
  bytes = left_by text o.bytes;
}

-- ---- a log

-- The sum over a log's answers.
unfoldable pub read_sum : List ℕ → ℕ
read_sum log = over read_step 0 (readings reader log)

-- The figures of a log's report.
unfoldable pub report_sum : List ℕ → ℕ
report_sum log = of_figures (report_of (readings reader log))

-- The sum over a log's answers and values.
unfoldable pub look_up_sum : Mnemonic → List ℕ → ℕ
look_up_sum name log = over (look_up_step name) 0 (readings reader log)

-- What printing a log comes to.
unfoldable pub printed_out : List ℕ → List ℕ → Out
printed_out log b = over print_step (record { sum = 0; bytes = b }) (readings reader log)
