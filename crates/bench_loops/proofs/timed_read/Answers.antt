use Rattle.walk.proofs.Turns.{at_start, at_end, line, near}
use Rattle.bench_loops.specs.Timed.{summed, read_step, read_sum}
use Rattle.bench_loops.proofs.timed_read.Goals as goal

pub loop-at-init : goal.loop-at-init
loop-at-init c = at_start

pub loop-at-smaller : goal.loop-at-smaller
loop-at-smaller c = near c.loop-at-test.true c.loop-at.invariant c.read_at-got.ensures

pub loop-at-preserved : goal.loop-at-preserved
unfolding read_step summed
loop-at-preserved c =
    line c.loop-at-test.true c.loop-at.invariant c.read_at-got.ensures
    (λ n h. rw c.of_reading.ensures at c.wrapping_add_u64-sum.ensures.value)

pub returns : goal.returns
unfolding read_sum
returns c = at_end c.loop-at-test.false c.loop-at.invariant
