use Rattle.put.proofs.Writing.{then}
use Rattle.table.specs.Table.{table_body}
use Rattle.table.proofs.Table.put_piece.Goals as goal

pub returns : goal.returns
unfolding table_body
returns c = then c.put_byte-at_count.ensures (then c.put_nat-at_first.ensures c.put_defs.ensures)
