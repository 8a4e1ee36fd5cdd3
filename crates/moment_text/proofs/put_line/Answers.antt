use Rattle.put.proofs.Writing.{then}
use Rattle.moment_text.specs.Answers.{moment_line}
use Rattle.moment_text.proofs.put_line.Goals as goal

-- the number that is put is the answer's
pub returns : goal.returns
unfolding moment_line
returns c =
    rw c.number.ensures
    at (then c.put_bytes-at_answer.ensures
    (then c.show_number-at_found.ensures (then c.put_found-at_end.ensures c.put_byte.ensures)))
