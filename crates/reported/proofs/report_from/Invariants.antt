use Rattle.text.specs.Prelude.{◌-◌, ◌≡◌, length}
use Rattle.report.specs.Counts.{numbers}
use Rattle.reported.specs.Flat.{flat_in}
use Rattle.reported.proofs.Pieces.{Taken}
use Rattle.reported.proofs.report_from.Given as goal

abbrev pub invariant-loop-at : goal.invariant-loop-at
invariant-loop-at l =
    (length l.answers ≡ numbers)
    × Taken (flat_in l.initial.answers l.initial.figures) l.place l.piece l.at (flat_in l.answers l.figures)

abbrev pub decreases-loop-at : goal.decreases-loop-at
decreases-loop-at l = length l.piece - l.at
