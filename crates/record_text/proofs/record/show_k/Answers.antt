use Rattle.put.proofs.Writing.{then}
use Rattle.record_text.specs.Record.{k_shown}
use Rattle.record_text.proofs.record.show_k.Goals as goal

pub returns : goal.returns
unfolding k_shown
returns c = then c.show_time-at_rest.ensures (then c.show_part-at_values.ensures c.show_values.ensures)
