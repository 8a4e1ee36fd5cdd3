use Rattle.put.proofs.Writing.{then}
use Rattle.l_record.specs.LRecord.{l_body}
use Rattle.l_record.proofs.LRecordLinePiece.put_piece.Goals as goal

pub returns : goal.returns
unfolding l_body
returns c = then c.put_byte-at_source.ensures (then c.put_part-at_text.ensures c.put_part.ensures)
