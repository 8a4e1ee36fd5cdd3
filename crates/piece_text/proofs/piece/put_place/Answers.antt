use Rattle.put.proofs.Writing.{then}
use Rattle.piece_text.specs.Piece.{place_text}
use Rattle.piece_text.proofs.piece.put_place.Goals as goal

pub returns : goal.returns
unfolding place_text
returns c = search (then)
