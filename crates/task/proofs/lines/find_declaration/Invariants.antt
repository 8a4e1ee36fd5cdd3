use Rattle.std.proofs.Common.{length, ◌-◌, ◌≡◌, drop}
use Rattle.task_line.specs.Lines.{task_lines}
use Rattle.task.specs.Sheet.{first_declaration}
use Rattle.task.proofs.lines.find_declaration.Given as goal

-- the first declaration from here on is the one that is looked for
abbrev pub invariant-loop-place : goal.invariant-loop-place
invariant-loop-place l =
    first_declaration (task_lines (drop l.place l.log)) ≡ first_declaration (task_lines (drop l.from l.log))

abbrev pub decreases-loop-place : goal.decreases-loop-place
decreases-loop-place l = length l.log - l.place
