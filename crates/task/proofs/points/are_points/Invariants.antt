use Rattle.std.proofs.Common.{◌≡◌, drop, ◌-◌}
use Rattle.task_line.specs.Lines.{task_lines}
use Rattle.task.specs.Sheet.{are_points_of}
use Rattle.task.proofs.points.are_points.Given as goal

-- what is left to see, from here, tells of the whole
abbrev pub invariant-loop : goal.invariant-loop
invariant-loop l =
    are_points_of (l.points - l.counter) (task_lines (drop l.place l.log))
    ≡ are_points_of l.points (task_lines (drop l.from l.log))
