use Rattle.put.proofs.Writing.{then}
use Rattle.piece_text.specs.Piece.{number_shown}
use Rattle.piece_text.proofs.piece.show_number.Goals as goal

pub returns : goal.returns
unfolding number_shown
returns c = search (then)
