use Rattle.walk.proofs.Turns.{got}
use Rattle.walk.proofs.turn.read_at.Goals as goal

pub returns : goal.returns
returns c = got _ _ c.cut_at-cut.ensures c.view.ensures.bytes c.parse_line.ensures
