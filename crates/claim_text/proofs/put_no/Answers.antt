use Rattle.text.specs.Spelt.{spelt_from, spelt}
use Rattle.put.proofs.Writing.{then}
use Rattle.claim_text.specs.Text.{no_text}
use Rattle.claim_text.proofs.put_no.Goals as goal

pub returns : goal.returns
unfolding no_text spelt spelt_from
returns c = search (then)
