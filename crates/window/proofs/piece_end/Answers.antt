use Rattle.window.specs.Piece.{piece_end_of}
use Rattle.window.proofs.piece_end.Goals as goal

pub returns-then-last : goal.returns-then-last
unfolding piece_end_of
returns-then-last c = rw c.if-last.true

pub returns : goal.returns
unfolding piece_end_of
returns c = rw (c.if-last.false, c.whole_length.ensures)
