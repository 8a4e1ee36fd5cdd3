use Rattle.put.proofs.Writing.{then}
use Rattle.positions_text.specs.Positions.{fix_shown}
use Rattle.positions_text.proofs.put_fix.Goals as goal

pub returns : goal.returns
unfolding fix_shown
returns c =
    rw c.of-read.ensures
    at (then c.put_nat-at_position.ensures (then c.put_position-at_end.ensures c.put_byte.ensures))
