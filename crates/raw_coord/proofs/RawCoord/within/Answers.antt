use Rattle.text.specs.Prelude.{guard, pick, ◌≤?◌, ◌∧?◌}
use Rattle.text.proofs.Prelude.{arith}
use Rattle.std.proofs.lemmas.Bool.Decides.{nat_tests}
use Rattle.raw_coord.specs.Coord.{coord_of}
use Rattle.raw_coord.proofs.RawCoord.within.Goals as goal

pub returns-then-thousandths-le60000 : goal.returns-then-thousandths-le60000
unfolding coord_of guard pick ◌≤?◌ ◌∧?◌
returns-then-thousandths-le60000 c = grind (arith, nat_tests)

pub returns : goal.returns
unfolding coord_of guard pick ◌≤?◌ ◌∧?◌
returns c = grind (arith, nat_tests)
