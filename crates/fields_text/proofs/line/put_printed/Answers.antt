use Rattle.put.proofs.Writing.{then}
use Rattle.fields_text.specs.Line.{printed_shown}
use Rattle.fields_text.proofs.line.put_printed.Goals as goal

pub returns : goal.returns
unfolding printed_shown
returns c = then c.put_byte-at_sign.ensures (then c.put_byte-at_text.ensures c.put_record.ensures)
