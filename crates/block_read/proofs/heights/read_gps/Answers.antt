use Rattle.text.specs.Spelt.{spelt_from, spelt}
use Rattle.sheet_text.specs.Sheet.{none_line}
use Rattle.block_read.specs.Block.{read_gps, read_height_at, read_range, range_by}
use Rattle.block_read.proofs.heights.read_gps.Goals as goal

pub returns : goal.returns
unfolding read_range range_by read_gps read_height_at none_line spelt spelt_from
returns c = c.read_span.ensures
