use Rattle.put.proofs.Writing.{then}
use Rattle.trailer_text.specs.Answer.{plain}
use Rattle.trailer_text.specs.Trailer.{figures}
use Rattle.trailer_text.proofs.Trailer.put_counts.Goals as goal

pub returns : goal.returns
unfolding figures plain
returns c =
    then c.put_byte-at_lines.ensures
    (then c.put_nat-at_space.ensures (then c.put_byte-at_refused.ensures c.put_nat.ensures))
