use Rattle.put.proofs.Writing.{then}
use Rattle.h_record.specs.HRecord.{h_body}
use Rattle.h_record.proofs.HRecordLinePiece.put_piece.Goals as goal

-- the character that is put second is the source's
pub returns : goal.returns
unfolding h_body
returns c =
    let source = rw c.to_byte.ensures at c.put_char-at_third.ensures in
    then c.put_byte-at_second.ensures (then source (then c.put_part-at_data.ensures c.put_data.ensures))
