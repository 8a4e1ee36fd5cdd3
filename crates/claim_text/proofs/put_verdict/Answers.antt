use Rattle.text.specs.Spelt.{spelt_from, spelt}
use Rattle.put.proofs.Writing.{then}
use Rattle.claim_text.specs.Text.{verdict_text}
use Rattle.claim_text.proofs.put_verdict.Goals as goal

pub returns-in-Yes : goal.returns-in-Yes
unfolding verdict_text spelt spelt_from
returns-in-Yes c = rw c.in-Yes.is c.put_bytes.ensures

pub returns-in-No : goal.returns-in-No
unfolding verdict_text
returns-in-No c = rw c.in-No.is (search (then))
