use Rattle.put.proofs.Writing.{then}
use Rattle.piece_text.specs.Value.{found_text}
use Rattle.piece_text.proofs.value.put_found.Goals as goal

pub returns-in-Ok : goal.returns-in-Ok
unfolding found_text
returns-in-Ok c = rw c.in-Ok.is (search (then))
