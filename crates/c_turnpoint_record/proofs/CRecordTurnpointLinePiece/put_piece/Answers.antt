use Rattle.put.proofs.Writing.{then}
use Rattle.c_turnpoint_record.specs.CTurnpoint.{turnpoint_body}
use Rattle.c_turnpoint_record.proofs.CRecordTurnpointLinePiece.put_piece.Goals as goal

pub returns : goal.returns
unfolding turnpoint_body
returns c = then c.put_byte-at_first.ensures (then c.put-at_second.ensures c.put_part.ensures)
