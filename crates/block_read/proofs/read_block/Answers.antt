use borrow.Author.Tests.{not-true, not-false}
use Rattle.block_read.proofs.Blocks.{block_good, block_wrong}
use Rattle.block_read.proofs.read_block.Goals as goal

pub returns-then-not-all : goal.returns-then-not-all
returns-then-not-all c = block_wrong _ c.read_all-all.ensures (not-true _ c.if-not-all.true)

pub returns : goal.returns
returns c = block_good _ c.read_all-all.ensures (not-false _ c.if-not-all.false)
