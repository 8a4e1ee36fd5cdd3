use Rattle.text.proofs.Prelude.{arith}
use Rattle.igc_log.proofs.Reached.{at_start, product}
use Rattle.cursor.specs.Cursor.{start}
use Rattle.walk.specs.Walk as walk
use Rattle.walk.proofs.Steps.{roomy_fresh}
use Rattle.bench_loops.specs.Timed.{summed, read_step, read_sum}
use Rattle.bench_loops.proofs.Walking.{not_done, step_read, step_turn, step_roomy, step_less_left}
use Rattle.bench_loops.proofs.timed_step.Goals as goal

pub loop-walk-init : goal.loop-walk-init
unfolding walk.fresh start
loop-walk-init c = rw c.new-walk.ensures (at_start, roomy_fresh _ (omega arith))

pub returns-in_default : goal.returns-in_default
returns-in_default c =
    let inv = c.loop-walk.invariant in
    absurd (not_done inv.1 c.loop-walk-test.true inv.0 c.step-step.ensures c.in_default.is)

pub loop-walk-smaller : goal.loop-walk-smaller
loop-walk-smaller c =
    let inv = c.loop-walk.invariant in
    step_less_left inv.1 c.loop-walk-test.true inv.0 c.step-step.ensures

pub loop-walk-preserved : goal.loop-walk-preserved
unfolding read_step summed
loop-walk-preserved c =
    let i = c.loop-walk-test.true in
    let inv = c.loop-walk.invariant in
    let e = c.step-step.ensures in
    let read = step_read inv.1 i inv.0 e c.in-Some.is in (
      step_turn inv.1 i inv.0 e (λ n h. rw (c.of_reading.ensures, read) at c.wrapping_add_u64-sum.ensures.value),
      step_roomy inv.1 i inv.0 e,
    )

pub returns : goal.returns
unfolding read_sum
returns c = product (omega arith) c.loop-walk.invariant.0
