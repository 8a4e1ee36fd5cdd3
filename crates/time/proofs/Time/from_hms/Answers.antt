use Rattle.text.specs.Prelude.{guard, pick, ◌≤?◌, ◌∧?◌}
use Rattle.text.proofs.Prelude.{arith}
use Rattle.std.proofs.lemmas.Bool.Decides.{nat_tests}
use Rattle.time.specs.Time.{time_of}
use Rattle.time.proofs.Time.from_hms.Goals as goal

pub returns-then-seconds-le60 : goal.returns-then-seconds-le60
unfolding time_of guard pick ◌≤?◌ ◌∧?◌
returns-then-seconds-le60 c = grind (arith, nat_tests)

pub returns : goal.returns
unfolding time_of guard pick ◌≤?◌ ◌∧?◌
returns c = grind (arith, nat_tests)
