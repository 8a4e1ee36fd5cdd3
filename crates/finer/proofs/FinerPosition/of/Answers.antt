use Rattle.finer.specs.Finer.{LAD, LOD, finer_position}
use Rattle.finer.proofs.Plain.{look_lies}
use Rattle.finer.proofs.FinerPosition.of.Goals as goal

pub position_by-requires : goal.position_by-requires
position_by-requires c = (look_lies _ _ _ _ _ c.find-lad.ensures, look_lies _ _ _ _ _ c.find-lod.ensures)

pub returns : goal.returns
unfolding finer_position LAD LOD
returns c = rw (c.position_by.ensures, c.find-lad.ensures, c.find-lod.ensures)
