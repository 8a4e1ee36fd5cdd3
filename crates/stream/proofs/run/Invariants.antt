use Rattle.text.specs.Prelude.{true}
use Rattle.products.specs.Feed.{at_first_of}
use Rattle.stream.specs.Stream.{Goes}
use Rattle.stream.proofs.run.Given as goal

-- what is carried is what whole lines make of the start
abbrev pub invariant-loop : goal.invariant-loop
invariant-loop l = Goes at_first_of l.carried true
