use Rattle.put.proofs.Writing.{then}
use Rattle.positions_text.specs.Positions.{refusal_shown}
use Rattle.positions_text.proofs.put_refusal.Goals as goal

pub returns : goal.returns
unfolding refusal_shown
returns c =
    rw (c.number.ensures, c.place.ensures)
    at (then c.put_byte-at_number.ensures (then c.put_nat-at_place.ensures c.put_place.ensures))
