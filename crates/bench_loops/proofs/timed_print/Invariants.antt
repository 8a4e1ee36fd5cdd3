use Rattle.text.specs.Prelude.{◌-◌, ◌≡◌, length}
use Rattle.walk.proofs.Turns.{Made}
use Rattle.bench_loops.specs.Timed.{print_step}
use Rattle.bench_loops.proofs.timed_print.Given as goal

abbrev pub invariant-loop-at : goal.invariant-loop-at
invariant-loop-at l =
    Made print_step (record { sum = 0; bytes = l.initial.buf }) l.log l.at (record { sum = l.sum; bytes = l.buf })
    × (length l.buf ≡ length l.initial.buf)

abbrev pub decreases-loop-at : goal.decreases-loop-at
decreases-loop-at l = length l.log - l.at
