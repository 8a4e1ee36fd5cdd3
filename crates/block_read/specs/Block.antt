-- The block of all logs read from a sheet, line by line, each in the form in which it is printed.
use Rattle.span.specs.Spot.{GpsSpot, PressureSpot}
use Rattle.std.specs.Prelude.{Result, ◌+◌, ◌-◌, ◌∷◌, ◌++◌}
use Rattle.text.specs.Prelude.{ℕ, zero, suc, code, ok, no, Bool, true, false, List, [], length, drop, pick}
use Rattle.text.specs.Prelude.{◌=?◌, LF, ℤ, largest}
use Rattle.text.specs.Spelt.{spelt}
use Rattle.report.specs.Range.{Range, none, between}
use Rattle.report.specs.Counts.{numbers}
use Rattle.total.specs.Total.{Totals, no_logs, total_in}
use Rattle.total.specs.declared.Total.{Total}
use Rattle.span.specs.declared.Spot.{Spot}
use Rattle.sheet_text.specs.Sheet.{none_line}
use Rattle.block_read.specs.Read.{Read, got, wrong, next, starts_with, read_words_of, read_number_of, read_height_of, read_line_of}

-- ---- lines

-- How many lines have an answer, behind its number: one at least.
unfoldable pub read_count : List ℕ → Read ℕ
read_count s = next (read_number_of largest LF s) (λ n r. pick (n =? 0) (wrong s) (got n r))

-- How many lines have the answer i: none where the line that stands there is that of another answer, or of none.
unfoldable pub read_answer_of : ℕ → List ℕ → Read ℕ
read_answer_of i s =
    pick (starts_with (spelt "answer ") s)
    (next (read_number_of largest (code " ") (drop 7 s)) (λ j r. pick (j =? i) (read_count r) (got 0 s)))
    (got 0 s)

-- How many lines have each of k answers, the first of them being the answer i.
unfoldable pub read_answers_of : ℕ → ℕ → List ℕ → Read (List ℕ)
read_answers_of zero i s = got [] s
read_answers_of (suc k) i s =
    next (read_answer_of i s) (λ n r.
    next (read_answers_of k (i + 1) r) (λ ns q.
    got (n ∷ ns) q))

-- A height behind its words, and its place: log number and byte offset.
unfoldable pub read_spot_of : List ℕ → List ℕ → Read (ℤ × (ℕ × ℕ))
read_spot_of ws s =
    next (read_words_of ws s) (λ _ r.
    next (read_height_of r) (λ h q.
    next (read_words_of (spelt "at ") q) (λ _ p.
    next (read_number_of largest (code ":") p) (λ log o.
    next (read_number_of largest LF o) (λ place n.
    got (h, (log, place)) n)))))

-- A pressure height of all logs.
unfoldable pub read_pressure : List ℕ → List ℕ → Read PressureSpot
read_pressure ws s =
    next (read_spot_of ws s) (λ x r. got (record { log = x.1.0; place = x.1.1; height = record { 0 = x.0 } }) r)

-- A GPS height of all logs.
unfoldable pub read_gps : List ℕ → List ℕ → Read GpsSpot
read_gps ws s =
    next (read_spot_of ws s) (λ x r. got (record { log = x.1.0; place = x.1.1; height = record { 0 = x.0 } }) r)

-- None of a datum; or the highest and then the lowest, each in its line.
unfoldable pub read_range : {P : Type 0} → (List ℕ → List ℕ → Read P) → List ℕ → List ℕ → Read (Range P)
read_range line datum s =
    pick (starts_with (none_line datum) s) (got none (drop (length (none_line datum)) s))
    (next (line (datum ++ spelt " high ") s) (λ high r.
    next (line (datum ++ spelt " low ") r) (λ low q.
    got (between high low) q)))

-- What the code says of both datums at once: a height whose number f takes, and a range by its three words.
unfoldable pub read_height_at : {H : Type 0} → (ℤ → H) → List ℕ → List ℕ → Read (Spot H)
read_height_at f ws s =
    next (read_spot_of ws s) (λ x r. got (record { log = x.1.0; place = x.1.1; height = f x.0 }) r)

unfoldable pub range_by : {P : Type 0} → (List ℕ → List ℕ → Read P) → List ℕ → List ℕ → List ℕ → List ℕ →
    Read (Range P)
range_by line missing highest lowest s =
    pick (starts_with missing s) (got none (drop (length missing) s))
    (next (line highest s) (λ high r.
    next (line lowest r) (λ low q.
    got (between high low) q)))

-- A time of 32 bits behind its words.
unfoldable pub read_time_of : List ℕ → List ℕ → Read ℕ
read_time_of ws s = next (read_words_of ws s) (λ _ r. read_number_of 4294967295 LF r)

-- No times; or the earliest and then the latest.
unfoldable pub read_times_of : List ℕ → Read (Range ℕ)
read_times_of s =
    pick (starts_with (none_line (spelt "time")) s) (got none (drop (length (none_line (spelt "time"))) s))
    (next (read_time_of (spelt "time first ") s) (λ earliest r.
    next (read_time_of (spelt "time last ") r) (λ latest q.
    got (between latest earliest) q)))

-- ---- the block

-- The block of all logs.
unfoldable pub read_all : List ℕ → Read Totals
read_all s =
    next (read_line_of (spelt "all ") s) (λ logs s₁.
    next (read_line_of (spelt "lines ") s₁) (λ lines s₂.
    next (read_answers_of numbers 0 s₂) (λ answers s₃.
    next (read_line_of (spelt "fixes ") s₃) (λ fixes s₄.
    next (read_range read_pressure (spelt "pressure") s₄) (λ pressure s₅.
    next (read_range read_gps (spelt "gps") s₅) (λ gps s₆.
    next (read_times_of s₆) (λ times s₇.
    got
    (record {
      logs = logs;
      figures = record {
        lines = lines;
        answers = answers;
        fixes = fixes;
        pressure = pressure;
        gps = gps;
        times = times;
      };
    })
    s₇)))))))

-- ---- the answer of the code

-- How many bytes were read, whether they are a block, and its total; where they are none, the total of no logs.
pub record Block : Type 0 where
  pub total : Totals
  pub end : ℕ
  pub good : Bool

unfoldable pub block_in : List ℕ → Read Totals → Block
block_in s (got t r) = record { total = t; end = length s - length r; good = true }
block_in s (wrong r) = record { total = no_logs; end = length s - length r; good = false }

-- The block that a text begins with.
unfoldable pub block_of : List ℕ → Block
block_of s = block_in s (read_all s)

-- Beside a place from where on the text is wrong stands the total of no logs.
abbrev pub block_read : Result (Total × ℕ) ℕ → Block
block_read (ok b) = record { total = total_in b.0; end = b.1; good = true }
block_read (no end) = record { total = no_logs; end = end; good = false }
