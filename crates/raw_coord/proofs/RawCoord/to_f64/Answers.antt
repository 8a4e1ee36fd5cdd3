use mathlib.Core.Logic.{⊎_elim}
use lib.Ieee.{binary64}
use Rattle.raw_coord.specs.Degrees.{by_sign}
use Rattle.raw_coord.proofs.Floats.{by_sign_lem}
use Rattle.raw_coord.proofs.RawCoord.to_f64.Goals as goal

pub returns-in-North : goal.returns-in-North
unfolding by_sign
returns-in-North c = ⊎_elim (by_sign_lem binary64 c.args.self) (by_sign_lem binary64 c.args.self) c.in-North.is

pub returns-in-South : goal.returns-in-South
unfolding by_sign
returns-in-South c = ⊎_elim (by_sign_lem binary64 c.args.self) (by_sign_lem binary64 c.args.self) c.in-South.is
