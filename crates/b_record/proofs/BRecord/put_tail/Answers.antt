use Rattle.put.proofs.Writing.{then}
use Rattle.b_record.specs.BRecord.{tail_text}
use Rattle.b_record.proofs.BRecord.put_tail.Goals as goal

pub returns : goal.returns
unfolding tail_text
returns c =
    rw c.letter.ensures
    at (then c.put_byte-at_pressure.ensures
    (then c.put-at_gps.ensures (then c.put-at_rest.ensures c.put_part.ensures)))
