use Rattle.text.specs.Prelude.{placed}
use Rattle.put.proofs.Writing.{then}
use Rattle.positions_text.specs.Positions.{place_shown}
use Rattle.positions_text.proofs.put_place.Goals as goal

pub returns-in-Some : goal.returns-in-Some
unfolding place_shown placed
returns-in-Some c = rw c.in-Some.is (then c.put_byte-at_place.ensures c.put_nat.ensures)
