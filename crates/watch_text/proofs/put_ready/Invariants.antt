use Rattle.text.specs.Prelude.{◌-◌, length}
use Rattle.watch_text.specs.Feed.{view}
use Rattle.watch_text.proofs.Feeding.{Feeding}
use Rattle.watch_text.proofs.put_ready.Given as goal

abbrev pub invariant-loop-taken : goal.invariant-loop-taken
invariant-loop-taken l = Feeding (view l.initial.watch) l.lines l.initial.buf l.buf (view l.watch) l.taken l.end

abbrev pub decreases-loop-taken : goal.decreases-loop-taken
decreases-loop-taken l = length l.lines - l.taken
