use Rattle.put.proofs.Writing.{then}
use Rattle.d_record.specs.DRecord.{d_body}
use Rattle.d_record.proofs.DRecordLinePiece.put_piece.Goals as goal

-- the byte that is put second is the qualifier's
pub returns : goal.returns
unfolding d_body
returns c =
    let letter = rw c.letter.ensures at c.put_byte-at_station.ensures in
    then c.put_byte-at_qualifier.ensures (then letter c.put_part.ensures)
