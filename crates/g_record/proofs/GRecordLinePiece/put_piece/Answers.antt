use Rattle.put.proofs.Writing.{then}
use Rattle.g_record.specs.GRecord.{g_body}
use Rattle.g_record.proofs.GRecordLinePiece.put_piece.Goals as goal

pub returns : goal.returns
unfolding g_body
returns c = then c.put_byte-at_data.ensures c.put_part.ensures
