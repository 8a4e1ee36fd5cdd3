-- What is said of joined totals: when one fits, and three of them joined from either side.
use Rattle.span.specs.Spot.{PressureSpot}
use Rattle.std.specs.Prelude.{◌-◌, ◌≡◌}
use Rattle.text.specs.Prelude.{ℕ, true, length, pos, largest}
use Rattle.report.specs.Range.{Range, none, between}
use Rattle.report.specs.Counts.{numbers, by_number}
use Rattle.span.specs.Span.{all_fit}
use Rattle.total.specs.Total.{Totals, total_fits, log_numbers, Joining, given, refused, join_res}

-- A total fits: its counts and its log numbers fit 64 bits, and it has a count for each answer.
pub record Fitting (t : Totals) : Type 0 where
  pub counts : total_fits t ≡ true
  pub logs : all_fit (log_numbers t.figures) ≡ true
  pub answers : length t.figures.answers ≡ numbers

-- A total, and then what is made of it; a refusal stands.
unfoldable pub and_then : Joining → (Totals → Joining) → Joining
and_then (given t) f = f t
and_then (refused n) f = refused n

-- The first two of three are joined first.
unfoldable pub left_first : Totals → Totals → Totals → Joining
left_first a b c = and_then (join_res a b) (λ t. join_res t c)

-- The last two of three are joined first.
unfoldable pub right_first : Totals → Totals → Totals → Joining
right_first a b c = and_then (join_res b c) (λ t. join_res a t)

-- ---- three totals built by hand

-- A total of one log and no lines, its pressure heights these.
unfoldable pub apart : Range PressureSpot → Totals
apart r = record {
  logs = 1;
  figures = record { lines = 0; answers = by_number (λ n. 0); fixes = 0; pressure = r; gps = none; times = none };
}

-- A pressure height of 0 at the first place of the log n.
unfoldable pub apart_spot : ℕ → PressureSpot
apart_spot n = record { log = n; place = 0; height = record { 0 = pos 0 } }

-- No heights.
unfoldable pub apart_a : Totals
apart_a = apart none

-- A height in its own log.
unfoldable pub apart_b : Totals
apart_b = apart (between (apart_spot 1) (apart_spot 1))

-- A height in a log that it does not have, the last but one that fits.
unfoldable pub apart_c : Totals
apart_c = apart (between (apart_spot (largest - 1)) (apart_spot (largest - 1)))
