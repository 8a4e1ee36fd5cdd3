use Rattle.put.proofs.Writing.{then}
use Rattle.piece_text.specs.Piece.{triple_shown}
use Rattle.piece_text.proofs.piece.show_triple.Goals as goal

pub returns-in-Some : goal.returns-in-Some
unfolding triple_shown
returns-in-Some c = rw c.in-Some.is (search (then))
