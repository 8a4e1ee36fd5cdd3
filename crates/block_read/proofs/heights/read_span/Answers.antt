use Rattle.report.specs.Range.{none}
use Rattle.block_read.specs.Read.{got}
use Rattle.block_read.specs.Block.{range_by}
use Rattle.block_read.proofs.Coming.{then, done}
use Rattle.block_read.proofs.Numbers.{behind_words, where_words, where_none}
use Rattle.block_read.proofs.heights.read_span.Goals as goal

pub returns-then-behind : goal.returns-then-behind
unfolding range_by
returns-then-behind g c =
    let w = c.read_words-behind.ensures in
    where_words _ w _ _ c.if-behind.true (behind_words _ w (got none) c.if-behind.true (done w.inside))

pub returns : goal.returns
unfolding range_by
returns g c =
    where_none _ c.read_words-behind.ensures _ _ c.if-behind.false
    (then _ c.read_height-highest.ensures
    (then _ c.read_height-lowest.ensures (done c.read_height-lowest.ensures.inside)))
