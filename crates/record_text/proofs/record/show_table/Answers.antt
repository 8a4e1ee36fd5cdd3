use Rattle.put.proofs.Writing.{then}
use Rattle.record_text.specs.Record.{table_shown}
use Rattle.record_text.proofs.record.show_table.Goals as goal

pub returns : goal.returns
unfolding table_shown
returns c = then c.show_number-next.ensures c.show_definitions.ensures
