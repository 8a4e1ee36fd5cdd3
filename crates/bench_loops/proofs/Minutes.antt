-- A question more in the sum.
use Rattle.text.specs.Prelude.{ℕ, ◌+◌, ◌≡◌, List}
use Rattle.text.proofs.Prelude.{◌∙◌}
use Rattle.std.proofs.Common.{add-one}
use Rattle.time.specs.Time.{time_of}
use Rattle.moment_fix.specs.declared.Moment.{Moment}
use Rattle.hours.specs.declared.Index.{Index}
use Rattle.moment.specs.Moment.{index_of, by_index, by_walk}
use Rattle.moment.proofs.Laws.{moments}
use Rattle.bench_loops.specs.Timed.{summed}
use Rattle.bench_loops.specs.Moments.{of_moment_of, moment_sum}

pub minute_more : (log : List ℕ) (h s k : ℕ) {sum sum' n : ℕ} {a : Moment} → sum ≡ moment_sum k log h s →
    a ≡ by_walk log (time_of h k s) → n ≡ of_moment_of a → sum' ≡ summed sum n → sum' ≡ moment_sum (k + 1) log h s
unfolding moment_sum
minute_more log h s k e a n q = rw (add-one, q, n, a, e)

-- answered by the log's own index
pub by_own_index : (log : List ℕ) (h m s : ℕ) {i : Index} {a : Moment} → i ≡ index_of log →
    a ≡ by_index i log (time_of h m s) → a ≡ by_walk log (time_of h m s)
by_own_index log h m s e q = rw e at q ∙ moments.own_index log h m s
