use Rattle.put.proofs.Writing.{then}
use Rattle.k_record.specs.KRecord.{k_body}
use Rattle.k_record.proofs.KRecordLinePiece.put_piece.Goals as goal

pub returns : goal.returns
unfolding k_body
returns c = then c.put_byte-at_time.ensures (then c.put-at_rest.ensures c.put_part.ensures)
