use Rattle.date.specs.Date.{date_text}
use Rattle.date.proofs.DatePiece.put.Goals as goal

pub returns : goal.returns
unfolding date_text
returns c = c.put_three.ensures
