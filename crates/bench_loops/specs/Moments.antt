-- What is timed of moments: what an index holds for an hour, and a question for each minute of one.
use Rattle.text.specs.Prelude.{None, Option, Some}
use Rattle.text.specs.Prelude.{ℕ, zero, suc, List}
use Rattle.time.specs.Time.{time_of}
use Rattle.moment_fix.specs.declared.Moment.{Moment}
use Rattle.hours.specs.Hours.{held_for}
use Rattle.moment.specs.Moment.{index_of, by_walk}
use Rattle.bench_loops.specs.Timed.{summed}

-- The place that is held; for none 0.
unfoldable pub of_first_of : Option ℕ → ℕ
of_first_of None = 0
of_first_of (Some p) = p

-- The place that was found; for none 0.
unfoldable pub of_moment_of : Moment → ℕ
of_moment_of (Moment.Found p b) = p
of_moment_of Moment.NoSuchFix = 0
of_moment_of (Moment.Refused n) = 0

-- What the index of a log holds for an hour.
unfoldable pub index_place : List ℕ → ℕ → ℕ
index_place log h = of_first_of (held_for (index_of log) h)

-- The sum over the answers to the first k minutes of an hour, each at the second s.
unfoldable pub moment_sum : ℕ → List ℕ → ℕ → ℕ → ℕ
moment_sum zero log h s = 0
moment_sum (suc k) log h s = summed (moment_sum k log h s) (of_moment_of (by_walk log (time_of h k s)))
