use Rattle.text.specs.Prelude.{pick, ◌≤?◌, ◌∧?◌}
use Rattle.text.proofs.Prelude.{arith}
use Rattle.std.proofs.lemmas.Bool.Decides.{nat_tests}
use Rattle.date.specs.Date.{dated}
use Rattle.date.proofs.Date.dated.Goals as goal

pub returns-then-month-ge1 : goal.returns-then-month-ge1
unfolding dated pick ◌≤?◌ ◌∧?◌
returns-then-month-ge1 c = grind (arith, nat_tests)

pub returns-else-month-ge1 : goal.returns-else-month-ge1
unfolding dated pick ◌≤?◌ ◌∧?◌
returns-else-month-ge1 c = grind (arith, nat_tests)
