use Rattle.put.proofs.Writing.{then}
use Rattle.record_text.specs.Record.{turnpoint_shown}
use Rattle.record_text.proofs.record.show_turnpoint.Goals as goal

pub returns : goal.returns
unfolding turnpoint_shown
returns c = then c.show_position-at_name.ensures c.show_maybe.ensures
