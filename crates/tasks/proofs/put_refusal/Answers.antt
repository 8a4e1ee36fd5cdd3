use Rattle.text.specs.Spelt.{spelt_from, spelt}
use Rattle.put.proofs.Writing.{then}
use Rattle.tasks.specs.Answer.{refusal_text}
use Rattle.tasks.proofs.put_refusal.Goals as goal

pub returns : goal.returns
unfolding refusal_text spelt spelt_from
returns c =
    then c.put_bytes-at_number.ensures
    (then (rw c.number.ensures at c.put_nat-at_comma.ensures)
    (then c.put_bytes-at_words.ensures (then c.put_words-at_lf.ensures c.put_byte.ensures)))
