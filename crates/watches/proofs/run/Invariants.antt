use Rattle.text.specs.Prelude.{true}
use Rattle.watch_text.specs.Feed.{view, at_first_of}
use Rattle.watches.specs.Watching.{Goes}
use Rattle.watches.proofs.run.Given as goal

-- what is carried is what whole lines make of the start
abbrev pub invariant-loop : goal.invariant-loop
invariant-loop l = Goes at_first_of (view l.watch) true
