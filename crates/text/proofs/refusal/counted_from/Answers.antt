use Rattle.text.specs.Prelude.{no, moved}
use Rattle.text.proofs.Prelude.{refl, ap}
use Rattle.text.proofs.refusal.counted_from.Goals as goal

pub returns-in-Ok : goal.returns-in-Ok
unfolding moved
returns-in-Ok g c = rw c.in-Ok.is

pub returns-in-Err : goal.returns-in-Err
unfolding moved
returns-in-Err g c = rw c.in-Err.is (ap no c.moved.ensures)
