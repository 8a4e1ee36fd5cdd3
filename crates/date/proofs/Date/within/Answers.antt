use Rattle.text.specs.Prelude.{guard, pick, ◌≤?◌, ◌∧?◌}
use Rattle.text.proofs.Prelude.{arith}
use Rattle.std.proofs.lemmas.Bool.Decides.{nat_tests}
use Rattle.date.specs.Date.{date_of}
use Rattle.date.proofs.Date.within.Goals as goal

pub returns-then-month-le12 : goal.returns-then-month-le12
unfolding date_of guard pick ◌≤?◌ ◌∧?◌
returns-then-month-le12 c = grind (arith, nat_tests)

pub returns : goal.returns
unfolding date_of guard pick ◌≤?◌ ◌∧?◌
returns c = grind (arith, nat_tests)
