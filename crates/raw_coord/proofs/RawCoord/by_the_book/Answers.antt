use Rattle.text.specs.Prelude.{pick, ◌≤?◌, ◌=?◌, ◌∧?◌}
use Rattle.text.proofs.Prelude.{arith}
use Rattle.std.proofs.lemmas.Bool.Decides.{nat_tests}
use Rattle.raw_coord.specs.Coord.{coord_book}
use Rattle.raw_coord.proofs.RawCoord.by_the_book.Goals as goal

pub returns-then-self-limit : goal.returns-then-self-limit
unfolding coord_book pick ◌≤?◌ ◌=?◌ ◌∧?◌
returns-then-self-limit c = grind (arith, nat_tests)

pub returns-then-self-limit-2 : goal.returns-then-self-limit-2
unfolding coord_book pick ◌≤?◌ ◌=?◌ ◌∧?◌
returns-then-self-limit-2 c = grind (arith, nat_tests)

pub returns-else-self-limit-2 : goal.returns-else-self-limit-2
unfolding coord_book pick ◌≤?◌ ◌=?◌ ◌∧?◌
returns-else-self-limit-2 c = grind (arith, nat_tests)
