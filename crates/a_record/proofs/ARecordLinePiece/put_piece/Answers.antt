use Rattle.put.proofs.Writing.{then}
use Rattle.a_record.specs.ARecord.{a_body}
use Rattle.a_record.proofs.ARecordLinePiece.put_piece.Goals as goal

pub returns : goal.returns
unfolding a_body
returns c =
    then c.put_byte-at_triple.ensures
    (then c.put_triple-at_number.ensures (then c.put_part-at_rest.ensures c.put_part.ensures))
