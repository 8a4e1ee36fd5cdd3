use Rattle.time.specs.Time.{time_text}
use Rattle.time.proofs.TimePiece.put.Goals as goal

pub returns : goal.returns
unfolding time_text
returns c = c.put_three.ensures
