use Rattle.text.proofs.Prelude.{rules}
use mir.Syntax.{w16}
use mir.Val.{SFits}
use mir.Facts.{to_z-of_z}
use Rattle.block_read.specs.Block.{read_height_at}
use Rattle.block_read.proofs.Coming.{then, done}
use Rattle.block_read.proofs.heights.read_height.Goals as goal

pub returns : goal.returns
unfolding read_height_at
returns g c =
    let f : SFits w16 c.read_spot-read.result.height = search rules in
    rw (c.at.ensures, to_z-of_z f) (then _ c.read_spot-read.ensures (done c.read_spot-read.ensures.inside))
