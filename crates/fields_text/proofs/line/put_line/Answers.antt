use Rattle.put.proofs.Writing.{then}
use Rattle.fields_text.specs.Line.{fields_line}
use Rattle.fields_text.proofs.line.put_line.Goals as goal

pub returns : goal.returns
unfolding fields_line
returns c = then c.put_head-at_fields.ensures (then c.put_fields-at_end.ensures c.put_byte.ensures)
