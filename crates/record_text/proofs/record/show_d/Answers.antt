use Rattle.put.proofs.Writing.{then}
use Rattle.record_text.specs.Record.{d_shown}
use Rattle.record_text.proofs.record.show_d.Goals as goal

pub returns : goal.returns
unfolding d_shown
returns c = rw c.letter.ensures at (then c.show_byte-at_station.ensures c.show_part.ensures)
