use Rattle.text.specs.Prelude.{◌-◌, length}
use Rattle.watches.proofs.Watching.{Writing}
use Rattle.watches.proofs.write_lines.Given as goal

-- the lines before the place are written
abbrev pub invariant-loop-from : goal.invariant-loop-from
invariant-loop-from l = Writing l.initial.watch l.lines l.from l.watch

abbrev pub decreases-loop-from : goal.decreases-loop-from
decreases-loop-from l = length l.lines - l.from
