use Rattle.put.proofs.Writing.{then}
use Rattle.record_text.specs.Record.{definition_shown}
use Rattle.record_text.proofs.record.show_definition.Goals as goal

pub returns : goal.returns
unfolding definition_shown
returns c = then c.show_number-at_dash.ensures (then c.put_byte-at_end.ensures (then c.put_nat-at_name.ensures c.put.ensures))
