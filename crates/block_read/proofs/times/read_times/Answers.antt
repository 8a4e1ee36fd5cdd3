use Rattle.text.specs.Spelt.{spelt_from, spelt}
use Rattle.report.specs.Range.{none}
use Rattle.sheet_text.specs.Sheet.{none_line}
use Rattle.block_read.specs.Read.{got}
use Rattle.block_read.specs.Block.{read_times_of}
use Rattle.block_read.proofs.Coming.{then, done}
use Rattle.block_read.proofs.Numbers.{behind_words, where_words, where_none}
use Rattle.block_read.proofs.times.read_times.Goals as goal

pub returns-then-none : goal.returns-then-none
unfolding read_times_of none_line spelt spelt_from
returns-then-none c =
    let w = c.read_words-none.ensures in
    where_words _ w _ _ c.if-none.true (behind_words _ w (got none) c.if-none.true (done w.inside))

pub returns : goal.returns
unfolding read_times_of none_line spelt spelt_from
returns c =
    where_none _ c.read_words-none.ensures _ _ c.if-none.false
    (then _ c.read_time-first.ensures
    (then _ c.read_time-last.ensures (done c.read_time-last.ensures.inside)))
