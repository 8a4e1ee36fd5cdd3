use Rattle.text.specs.Prelude.{guard, pick, ◌≤?◌, ◌∧?◌}
use Rattle.text.proofs.Prelude.{arith}
use Rattle.std.proofs.lemmas.Bool.Decides.{nat_tests}
use Rattle.date.specs.Date.{new_date}
use Rattle.date.proofs.Date.from_dmy.Goals as goal

pub returns-then-dated : goal.returns-then-dated
unfolding new_date guard pick ◌≤?◌ ◌∧?◌
returns-then-dated c = grind (arith, nat_tests)

pub returns : goal.returns
unfolding new_date guard pick ◌≤?◌ ◌∧?◌
returns c = grind (arith, nat_tests)
