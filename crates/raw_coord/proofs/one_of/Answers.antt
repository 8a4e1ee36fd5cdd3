use Rattle.text.specs.Prelude.{pick, ◌=?◌, ◌∨?◌}
use Rattle.text.proofs.Prelude.{arith}
use Rattle.std.proofs.lemmas.Bool.Decides.{nat_tests}
use Rattle.raw_coord.proofs.one_of.Goals as goal

pub returns-then-letter : goal.returns-then-letter
unfolding pick ◌=?◌ ◌∨?◌
returns-then-letter c = grind (arith, nat_tests)

pub returns-else-letter : goal.returns-else-letter
unfolding pick ◌=?◌ ◌∨?◌
returns-else-letter c = grind (arith, nat_tests)
