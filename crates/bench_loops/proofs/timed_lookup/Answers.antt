use Rattle.text.proofs.Prelude.{arith}
use Rattle.igc_log.proofs.Reached.{at_start, product}
use Rattle.walk.proofs.Turns.{turn, less_left}
use Rattle.bench_loops.specs.Timed.{summed, look_up_step, look_up_sum}
use Rattle.bench_loops.proofs.timed_lookup.Goals as goal

pub loop-at-init : goal.loop-at-init
loop-at-init c = rw c.new-held.ensures (_, at_start)

pub loop-at-smaller : goal.loop-at-smaller
loop-at-smaller c = less_left c.loop-at-test.true c.loop-at.invariant.1 c.read_at-got.ensures

pub loop-at-preserved : goal.loop-at-preserved
unfolding look_up_step summed
loop-at-preserved c =
    let held = rw c.view-line.ensures.bytes at c.after-held.ensures in
    let made = rw (
      c.wrapping_add_u64-sum.ensures.value,
      c.of_reading.ensures,
      c.of_named.ensures,
      c.fix_in.ensures,
      held,
      c.view-line.ensures.bytes,
    ) at c.wrapping_add_u64-sum-in-loop-at.ensures.value in
    (_, turn c.loop-at-test.true c.loop-at.invariant.1 c.read_at-got.ensures (omega arith) held made)

pub returns : goal.returns
unfolding look_up_sum
returns c = product c.loop-at-test.false c.loop-at.invariant.1
