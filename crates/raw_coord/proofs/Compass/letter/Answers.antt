use Rattle.text.proofs.Prelude.{sym, ap}
use Rattle.raw_coord.specs.Coord.{compass_letter}
use Rattle.raw_coord.proofs.Compass.letter.Goals as goal

pub returns-in-North : goal.returns-in-North
unfolding compass_letter
returns-in-North c = ap compass_letter (sym c.in-North.is)

pub returns-in-South : goal.returns-in-South
unfolding compass_letter
returns-in-South c = ap compass_letter (sym c.in-South.is)

pub returns-in-East : goal.returns-in-East
unfolding compass_letter
returns-in-East c = ap compass_letter (sym c.in-East.is)

pub returns-in-West : goal.returns-in-West
unfolding compass_letter
returns-in-West c = ap compass_letter (sym c.in-West.is)
