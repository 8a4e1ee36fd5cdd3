use Rattle.put.proofs.Writing.{then}
use Rattle.positions_text.specs.Positions.{position_shown}
use Rattle.positions_text.proofs.put_position.Goals as goal

pub returns-in-Ok : goal.returns-in-Ok
unfolding position_shown
returns-in-Ok c = rw c.in-Ok.is (then c.put_latitude-at_lon.ensures c.put_longitude.ensures)

pub returns-in-Err : goal.returns-in-Err
unfolding position_shown
returns-in-Err c = rw c.in-Err.is c.put_refusal.ensures
