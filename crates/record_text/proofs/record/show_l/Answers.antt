use Rattle.put.proofs.Writing.{then}
use Rattle.record_text.specs.Record.{l_shown}
use Rattle.record_text.proofs.record.show_l.Goals as goal

pub returns : goal.returns
unfolding l_shown
returns c = then c.show_part-at_text.ensures c.show_maybe.ensures
