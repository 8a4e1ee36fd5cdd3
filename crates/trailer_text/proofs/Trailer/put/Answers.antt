use Rattle.put.proofs.Writing.{then}
use Rattle.trailer_text.specs.Trailer.{trailer_text_of}
use Rattle.trailer_text.proofs.Trailer.put.Goals as goal

pub returns : goal.returns
unfolding trailer_text_of
returns c =
    then c.put_byte-at_counts.ensures
    (then c.put_counts-at_space.ensures
    (then c.put_byte-at_offset.ensures (then c.put_offset-at_end.ensures c.put_byte.ensures)))
