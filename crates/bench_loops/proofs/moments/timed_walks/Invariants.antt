use Rattle.text.specs.Prelude.{◌≡◌}
use Rattle.bench_loops.specs.Moments.{moment_sum}
use Rattle.bench_loops.proofs.moments.timed_walks.Given as goal

-- the sum over the minutes before
abbrev pub invariant-loop-minute : goal.invariant-loop-minute
invariant-loop-minute l = l.sum ≡ moment_sum l.minute l.log l.hours l.seconds
