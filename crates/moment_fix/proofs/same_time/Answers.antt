use Rattle.text.specs.Prelude.{pick, ◌=?◌, ◌∧?◌}
use Rattle.text.proofs.Prelude.{arith}
use Rattle.std.proofs.lemmas.Bool.Decides.{nat_tests}
use Rattle.moment_fix.specs.Fix.{same_time_of}
use Rattle.moment_fix.proofs.same_time.Goals as goal

pub returns-then-a-b-2 : goal.returns-then-a-b-2
unfolding same_time_of pick ◌=?◌ ◌∧?◌
returns-then-a-b-2 c = grind (arith, nat_tests)

pub returns-else-a-b-2 : goal.returns-else-a-b-2
unfolding same_time_of pick ◌=?◌ ◌∧?◌
returns-else-a-b-2 c = grind (arith, nat_tests)
