use Rattle.text.specs.Prelude.{pick, ◌≤?◌, ◌∧?◌}
use Rattle.text.proofs.Prelude.{arith}
use Rattle.std.proofs.lemmas.Bool.Decides.{nat_tests}
use Rattle.reported.specs.Flat.{room_by}
use Rattle.reported.proofs.flat.Flat.has_room.Goals as goal

pub returns-then-self-ge18446744073709551615 : goal.returns-then-self-ge18446744073709551615
unfolding room_by pick ◌≤?◌ ◌∧?◌
returns-then-self-ge18446744073709551615 c = grind (arith, nat_tests)

pub returns-then-count-ge18446744073709551615 : goal.returns-then-count-ge18446744073709551615
unfolding room_by pick ◌≤?◌ ◌∧?◌
returns-then-count-ge18446744073709551615 c = grind (arith, nat_tests)

pub returns-then-seen : goal.returns-then-seen
unfolding room_by pick ◌≤?◌ ◌∧?◌
returns-then-seen c = grind (arith, nat_tests)

pub returns : goal.returns
unfolding room_by pick ◌≤?◌ ◌∧?◌
returns c = grind (arith, nat_tests)
