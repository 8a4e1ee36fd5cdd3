use Rattle.std.proofs.Common.{rules}
use mir.Syntax.{w64}
use mir.Val.{SFits}
use mir.Facts.{to_z-of_z}
use Rattle.put.proofs.Writing.{then}
use Rattle.positions_text.specs.Positions.{coord_shown}
use Rattle.positions_text.proofs.put_coord.Goals as goal

pub returns : goal.returns
unfolding coord_shown
returns c =
    let fits : SFits w64 c.args.coord.value = search rules in
    rw (to_z-of_z fits)
    at (then c.put_byte-at_value.ensures
    (then c.put_int-at_space.ensures (then c.put_byte-at_n.ensures c.put_nat.ensures)))
