use Rattle.put.proofs.Writing.{then}
use Rattle.c_record.specs.CRecord.{declaration_body}
use Rattle.c_record.proofs.CRecordDeclarationLinePiece.put_piece.Goals as goal

pub returns : goal.returns
unfolding declaration_body
returns c =
    then c.put_byte-at_date.ensures (then c.put-at_time.ensures (then c.put-at_flight.ensures c.put_task.ensures))
