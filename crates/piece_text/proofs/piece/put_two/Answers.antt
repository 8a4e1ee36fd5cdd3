use Rattle.put.proofs.Writing.{then}
use Rattle.piece_text.specs.Piece.{two_marked}
use Rattle.piece_text.proofs.piece.put_two.Goals as goal

pub returns : goal.returns
unfolding two_marked
returns c = search (then)
