use Rattle.put.proofs.Writing.{then}
use Rattle.piece_text.specs.Piece.{part_shown}
use Rattle.piece_text.proofs.piece.show_part.Goals as goal

pub returns : goal.returns
unfolding part_shown
returns c = search (then)
