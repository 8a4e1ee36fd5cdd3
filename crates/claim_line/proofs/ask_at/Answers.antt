use Rattle.claim_line.proofs.Asking.{asks}
use Rattle.claim_line.proofs.ask_at.Goals as goal

pub returns : goal.returns
returns c = asks _ _ c.read_at-got.ensures c.view.ensures.bytes c.ask.ensures
