use Rattle.text.specs.Prelude.{◌-◌, length}
use Rattle.walk.proofs.Turns.{Made}
use Rattle.bench_loops.specs.Timed.{read_step}
use Rattle.bench_loops.proofs.timed_read.Given as goal

abbrev pub invariant-loop-at : goal.invariant-loop-at
invariant-loop-at l = Made read_step 0 l.log l.at l.sum

abbrev pub decreases-loop-at : goal.decreases-loop-at
decreases-loop-at l = length l.log - l.at
