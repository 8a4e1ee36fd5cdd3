use Rattle.text.specs.Prelude.{pick, ◌≤?◌, ◌∧?◌}
use Rattle.text.proofs.Prelude.{arith}
use Rattle.std.proofs.lemmas.Bool.Decides.{nat_tests}
use Rattle.watch_text.specs.Feed.{is_ready_of}
use Rattle.watch_text.proofs.Watch.is_ready.Goals as goal

pub returns-then-self-n : goal.returns-then-self-n
unfolding is_ready_of pick ◌≤?◌ ◌∧?◌
returns-then-self-n c = grind (arith, nat_tests)

pub returns : goal.returns
unfolding is_ready_of pick ◌≤?◌ ◌∧?◌
returns c = grind (arith, nat_tests)
