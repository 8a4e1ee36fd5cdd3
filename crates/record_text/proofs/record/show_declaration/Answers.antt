use Rattle.put.proofs.Writing.{then}
use Rattle.record_text.specs.Record.{declaration_shown}
use Rattle.record_text.proofs.record.show_declaration.Goals as goal

pub returns : goal.returns
unfolding declaration_shown
returns c = then c.show_date-at_hour.ensures (then c.show_time-at_flight.ensures (then c.show_flight-at_id.ensures c.show_task.ensures))
