use Rattle.text.specs.Prelude.{guard, pick, ◌≤?◌, ◌∧?◌}
use Rattle.text.proofs.Prelude.{arith}
use Rattle.std.proofs.lemmas.Bool.Decides.{nat_tests}
use Rattle.raw_coord.specs.Coord.{new_coord}
use Rattle.raw_coord.proofs.RawCoord.new.Goals as goal

pub returns-then-one_of : goal.returns-then-one_of
unfolding new_coord guard pick ◌≤?◌ ◌∧?◌
returns-then-one_of c = grind (arith, nat_tests)

pub returns : goal.returns
unfolding new_coord guard pick ◌≤?◌ ◌∧?◌
returns c = grind (arith, nat_tests)
