use Rattle.task_text.proofs.Putting.{Putting}
use Rattle.task_text.proofs.put_points.Given as goal

-- what is written after i points, and that the rest follows from the place on
abbrev pub invariant-loop-i : goal.invariant-loop-i
invariant-loop-i l = Putting l.log l.labels l.initial.buf l.at l.from l.points l.buf l.end l.place l.i
