use Rattle.text.specs.Prelude.{◌=?◌}
use Rattle.claim_line.specs.Asked.{is_accepted_of}
use Rattle.claim_line.proofs.is_accepted.Goals as goal

pub returns : goal.returns
unfolding is_accepted_of ◌=?◌
returns c = rw c.answer_number-number.ensures
