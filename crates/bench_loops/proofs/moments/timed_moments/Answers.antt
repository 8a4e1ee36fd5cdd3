use Rattle.bench_loops.specs.Timed.{summed}
use Rattle.bench_loops.proofs.Minutes.{minute_more, by_own_index}
use Rattle.bench_loops.proofs.moments.timed_moments.Goals as goal

pub loop-minute-preserved : goal.loop-minute-preserved
unfolding summed
loop-minute-preserved c =
    let own = by_own_index _ _ c.loop-minute.minute _ c.index_of-index.ensures c.find-answer.ensures in
    minute_more _ _ _ c.loop-minute.minute c.loop-minute.invariant own c.of_moment.ensures
    c.wrapping_add_u64-sum.ensures.value
