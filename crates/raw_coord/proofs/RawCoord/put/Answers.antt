use Rattle.put.proofs.Writing.{then}
use Rattle.raw_coord.specs.Coord.{coord_text}
use Rattle.raw_coord.proofs.RawCoord.put.Goals as goal

-- the byte that is put last is the letter
pub returns : goal.returns
unfolding coord_text
returns c = rw (← c.letter.ensures) (search then)
