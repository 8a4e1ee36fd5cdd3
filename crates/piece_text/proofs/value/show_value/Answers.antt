use Rattle.put.proofs.Writing.{then}
use Rattle.piece_text.specs.Value.{value_shown}
use Rattle.piece_text.proofs.value.show_value.Goals as goal

-- what is put last is what lookup found
pub returns : goal.returns
unfolding value_shown
returns c =
    rw c.find-found.ensures
    at (then c.put_byte-at_first.ensures
    (then c.put-at_sign.ensures (then c.put_byte-at_answer.ensures c.put_found.ensures)))
