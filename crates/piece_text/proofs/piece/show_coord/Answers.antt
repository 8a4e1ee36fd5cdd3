use Rattle.put.proofs.Writing.{then}
use Rattle.piece_text.specs.Piece.{coord_shown}
use Rattle.piece_text.proofs.piece.show_coord.Goals as goal

-- the byte that is put last is the letter
pub returns : goal.returns
unfolding coord_shown
returns c = rw (← c.letter.ensures) (search (then))
