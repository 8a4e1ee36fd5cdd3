use Rattle.put.proofs.Writing.{then}
use Rattle.f_record.specs.FRecord.{f_body}
use Rattle.f_record.proofs.FRecordLinePiece.put_piece.Goals as goal

pub returns : goal.returns
unfolding f_body
returns c = then c.put_byte-at_time.ensures (then c.put-at_list.ensures c.put_part.ensures)
