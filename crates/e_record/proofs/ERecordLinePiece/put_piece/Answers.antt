use Rattle.put.proofs.Writing.{then}
use Rattle.e_record.specs.ERecord.{e_body}
use Rattle.e_record.proofs.ERecordLinePiece.put_piece.Goals as goal

pub returns : goal.returns
unfolding e_body
returns c =
    then c.put_byte-at_time.ensures
    (then c.put-at_mnemonic.ensures (then c.put_part-at_text.ensures c.put_part.ensures))
