-- What a total is: its highest and lowest are the first that reached them over all logs, their log numbers are those of
-- its logs, and logs added one after the other make it.
use Rattle.std.specs.Prelude.{◌≤◌, ◌≡◌, ◌∷◌, ◌++◌}
use Rattle.text.specs.Prelude.{ℕ, List, [], Res}
use Rattle.records.specs.declared.Record.{Record}
use Rattle.igc_log.specs.Log.{LineRead}
use Rattle.report.specs.Range.{Range, none, between, IsRange}
use Rattle.report.specs.Figures.{earlier}
use Rattle.report.specs.Report.{report_of}
use Rattle.span.specs.Span.{lower_pressure, lower_gps}
use Rattle.total.specs.Total.{Totals, in_order, Logs, pressure_shown, gps_shown, time_shown, total_of, no_logs, add_of}

-- X holds of the highest and of the lowest, where there are any.
abbrev pub OfBoth : {P : Type 0} → (P → Type 0) → Range P → Type 0
OfBoth X none = Unit
OfBoth X (between high low) = X high × X low

-- It is the number of one of n logs.
abbrev pub Numbers : ℕ → ℕ → Type 0
Numbers n log = (1 ≤ log) × (log ≤ n)

-- The heights of a total stand in its own logs.
pub record Sound (t : Totals) : Type 0 where
  pub pressure : OfBoth (λ s. Numbers t.logs s.log) t.figures.pressure
  pub gps : OfBoth (λ s. Numbers t.logs s.log) t.figures.gps

pub record TotalAgrees (T : Type 0) : Type 0 where
  -- Heights and times, over all logs in order.
  pub pressure : (logs : Logs T) →
      IsRange lower_pressure (in_order pressure_shown 1 logs) (total_of logs).figures.pressure
  pub gps : (logs : Logs T) → IsRange lower_gps (in_order gps_shown 1 logs) (total_of logs).figures.gps
  pub times : (logs : Logs T) → IsRange earlier (in_order time_shown 1 logs) (total_of logs).figures.times
  pub sound : (logs : Logs T) → Sound (total_of logs)
  -- The total of no logs; and of some logs and then one more.
  pub no_logs_lem : total_of {T = T} [] ≡ no_logs
  pub one_more : (logs : Logs T) (xs : List (LineRead (Res Record) T)) →
      total_of (logs ++ (xs ∷ [])) ≡ add_of (total_of logs) (report_of xs)
