use Rattle.put.proofs.Writing.{then}
use Rattle.record_text.specs.Record.{f_shown}
use Rattle.record_text.proofs.record.show_f.Goals as goal

pub returns : goal.returns
unfolding f_shown
returns c = rw c.count.ensures.all at (then c.show_time-at_count.ensures (then c.show_number-at_list.ensures c.show_part.ensures))
