use Rattle.bench_loops.specs.Timed.{summed}
use Rattle.bench_loops.proofs.Minutes.{minute_more}
use Rattle.bench_loops.proofs.moments.timed_walks.Goals as goal

pub loop-minute-preserved : goal.loop-minute-preserved
unfolding summed
loop-minute-preserved c =
    minute_more _ _ _ c.loop-minute.minute c.loop-minute.invariant c.find_by_walk-answer.ensures c.of_moment.ensures
    c.wrapping_add_u64-sum.ensures.value
