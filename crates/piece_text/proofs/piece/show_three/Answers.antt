use Rattle.put.proofs.Writing.{then}
use Rattle.piece_text.specs.Piece.{three_shown}
use Rattle.piece_text.proofs.piece.show_three.Goals as goal

pub returns : goal.returns
unfolding three_shown
returns c = search (then)
