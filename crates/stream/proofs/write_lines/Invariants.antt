use Rattle.text.specs.Prelude.{◌-◌, length}
use Rattle.stream.proofs.Streaming.{Streaming}
use Rattle.stream.proofs.write_lines.Given as goal

-- the lines before the place are written
abbrev pub invariant-loop-from : goal.invariant-loop-from
invariant-loop-from l = Streaming l.initial.carried l.lines l.from l.carried

abbrev pub decreases-loop-from : goal.decreases-loop-from
decreases-loop-from l = length l.lines - l.from
