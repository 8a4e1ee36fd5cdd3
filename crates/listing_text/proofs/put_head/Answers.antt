use Rattle.put.proofs.Writing.{then}
use Rattle.trailer_text.specs.Answer.{plain}
use Rattle.listing_text.specs.Line.{head_text}
use Rattle.listing_text.proofs.put_head.Goals as goal

pub returns : goal.returns
unfolding head_text plain
returns c = then c.put_nat-at_answer.ensures c.put_answer.ensures
