use Rattle.put.proofs.Writing.{then}
use Rattle.record_text.specs.Record.{h_shown}
use Rattle.record_text.proofs.record.show_h.Goals as goal

pub returns : goal.returns
unfolding h_shown
returns c = rw c.to_byte.ensures at (then c.show_byte-at_short.ensures (then c.show_part-at_name.ensures (then c.show_maybe-at_data.ensures c.show_part.ensures)))
