use Rattle.put.proofs.Writing.{then}
use Rattle.position.specs.Position.{position_text}
use Rattle.position.proofs.RawPositionPiece.put.Goals as goal

pub returns : goal.returns
unfolding position_text
returns c = search then
