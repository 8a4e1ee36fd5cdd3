use Rattle.block_read.specs.Block.{read_time_of}
use Rattle.block_read.proofs.Coming.{then}
use Rattle.block_read.proofs.times.read_time.Goals as goal

pub returns : goal.returns
unfolding read_time_of
returns c = then _ c.read_words-at_time.ensures c.read_number-time.ensures.came
