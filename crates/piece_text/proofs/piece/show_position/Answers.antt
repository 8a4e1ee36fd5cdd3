use Rattle.put.proofs.Writing.{then}
use Rattle.piece_text.specs.Piece.{position_shown}
use Rattle.piece_text.proofs.piece.show_position.Goals as goal

pub returns : goal.returns
unfolding position_shown
returns c = search (then)
