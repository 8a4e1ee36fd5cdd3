use Rattle.put.proofs.Writing.{then}
use Rattle.record_text.specs.Record.{b_shown}
use Rattle.record_text.proofs.record.show_b.Goals as goal

pub returns : goal.returns
unfolding b_shown
returns c = then c.show_time-at_place.ensures (then c.show_position-at_fix.ensures (then c.show_fix-at_values.ensures c.show_values.ensures))
