use Rattle.text.specs.Prelude.{pick, ◌≤?◌, ◌∧?◌}
use Rattle.text.proofs.Prelude.{arith}
use Rattle.std.proofs.lemmas.Bool.Decides.{nat_tests}
use Rattle.date.specs.Date.{date_book}
use Rattle.date.proofs.Date.by_the_book.Goals as goal

pub returns-then-self-ge1 : goal.returns-then-self-ge1
unfolding date_book pick ◌≤?◌ ◌∧?◌
returns-then-self-ge1 c = grind (arith, nat_tests)

pub returns-else-self-ge1 : goal.returns-else-self-ge1
unfolding date_book pick ◌≤?◌ ◌∧?◌
returns-else-self-ge1 c = grind (arith, nat_tests)
