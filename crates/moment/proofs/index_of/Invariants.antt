use Rattle.text.specs.Prelude.{◌-◌, length}
use Rattle.moment.proofs.Hours.{Indexed}
use Rattle.moment.proofs.index_of.Given as goal

abbrev pub invariant-loop-place : goal.invariant-loop-place
invariant-loop-place l = Indexed l.log l.place l.index

abbrev pub decreases-loop-place : goal.decreases-loop-place
decreases-loop-place l = length l.log - l.place
