use Rattle.put.proofs.Writing.{then}
use Rattle.b_record.specs.BRecord.{b_body}
use Rattle.b_record.proofs.BRecordLinePiece.put_piece.Goals as goal

pub returns : goal.returns
unfolding b_body
returns c =
    then c.put_byte-at_time.ensures
    (then c.put-at_place.ensures (then c.put-at_fix.ensures c.put_tail.ensures))
