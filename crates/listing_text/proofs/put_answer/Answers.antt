use Rattle.put.proofs.Writing.{then}
use Rattle.trailer_text.specs.Answer.{plain}
use Rattle.listing_text.specs.Line.{answer_text}
use Rattle.listing_text.proofs.put_answer.Goals as goal

pub returns : goal.returns
unfolding answer_text plain
returns c =
    rw (c.letter_of.ensures, c.answer_number.ensures)
    at (then c.put_byte-at_letter.ensures
    (then c.put_byte-at_space.ensures (then c.put_byte-at_answer.ensures c.put_nat.ensures)))
