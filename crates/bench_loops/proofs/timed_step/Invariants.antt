use Rattle.text.specs.Prelude.{◌-◌, length}
use Rattle.igc_log.specs.Fold.{fresh}
use Rattle.igc_log.proofs.Reached.{Reached}
use Rattle.walk.specs.Readings.{reader}
use Rattle.walk.proofs.Steps.{Roomy}
use Rattle.bench_loops.specs.Timed.{read_step}
use Rattle.bench_loops.proofs.Walking.{carried_by}
use Rattle.bench_loops.proofs.timed_step.Given as goal

abbrev pub invariant-loop-walk : goal.invariant-loop-walk
invariant-loop-walk l =
    Reached reader read_step (fresh reader 0) l.log l.walk.at.place (carried_by l.walk l.sum) × Roomy l.log l.walk

abbrev pub decreases-loop-walk : goal.decreases-loop-walk
decreases-loop-walk l = length l.log - l.walk.at.place
