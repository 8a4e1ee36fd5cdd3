use Rattle.text.specs.Prelude.{ℕ, ◌-◌, length}
use Rattle.igc_log.specs.Fold.{fresh}
use Rattle.igc_log.proofs.Reached.{Reached}
use Rattle.walk.specs.Readings.{reader}
use Rattle.bench_loops.specs.Timed.{look_up_step}
use Rattle.bench_loops.proofs.timed_lookup.Given as goal

-- how many lines were read is not looked at
abbrev pub invariant-loop-at : goal.invariant-loop-at
invariant-loop-at l =
    (n : ℕ) × Reached reader (look_up_step (record { 0 = l.a; 1 = l.b; 2 = l.c })) (fresh reader 0) l.log
    l.at (record { number = n; place = l.at; held = l.held; made = l.sum })

abbrev pub decreases-loop-at : goal.decreases-loop-at
decreases-loop-at l = length l.log - l.at
