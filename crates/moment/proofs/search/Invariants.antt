use Rattle.text.specs.Prelude.{◌-◌, length}
use Rattle.moment.proofs.Searching.{Left}
use Rattle.moment.proofs.search.Given as goal

abbrev pub invariant-loop-place : goal.invariant-loop-place
invariant-loop-place l = Left l.time l.log l.from l.place

abbrev pub decreases-loop-place : goal.decreases-loop-place
decreases-loop-place l = length l.log - l.place
