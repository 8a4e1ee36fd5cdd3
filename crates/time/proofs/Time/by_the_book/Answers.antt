use Rattle.text.specs.Prelude.{pick, ◌≤?◌, ◌∧?◌}
use Rattle.text.proofs.Prelude.{arith}
use Rattle.std.proofs.lemmas.Bool.Decides.{nat_tests}
use Rattle.time.specs.Time.{time_book}
use Rattle.time.proofs.Time.by_the_book.Goals as goal

pub returns-then-self-le59 : goal.returns-then-self-le59
unfolding time_book pick ◌≤?◌ ◌∧?◌
returns-then-self-le59 c = grind (arith, nat_tests)

pub returns-else-self-le59 : goal.returns-else-self-le59
unfolding time_book pick ◌≤?◌ ◌∧?◌
returns-else-self-le59 c = grind (arith, nat_tests)
