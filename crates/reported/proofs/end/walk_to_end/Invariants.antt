use Rattle.text.specs.Prelude.{◌-◌, length}
use Rattle.reported.specs.End.{walk_from_of}
use Rattle.reported.proofs.Ending.{Standing}
use Rattle.reported.proofs.end.walk_to_end.Given as goal

abbrev pub invariant-loop-place : goal.invariant-loop-place
invariant-loop-place l =
    let at = walk_from_of l.initial.held l.initial.answers l.initial.figures l.initial.place l.initial.number in
    Standing l.log at l.held l.answers l.figures l.full l.place l.number

abbrev pub decreases-loop-place : goal.decreases-loop-place
decreases-loop-place l = length l.log - l.place
