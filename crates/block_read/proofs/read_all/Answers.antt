use Rattle.text.specs.Spelt.{spelt_from, spelt}
use Rattle.block_read.specs.Block.{read_all}
use Rattle.block_read.proofs.Coming.{then, done}
use Rattle.block_read.proofs.read_all.Goals as goal

pub returns : goal.returns
unfolding read_all spelt spelt_from
returns c =
    then _ c.read_line-logs.ensures
    (then _ c.read_line-lines.ensures
    (then _ c.read_answers-counts.ensures
    (then _ c.read_line-fixes.ensures
    (then _ c.read_pressure-pressure.ensures
    (then _ c.read_gps-gps.ensures
    (then _ c.read_times-times.ensures (done c.read_times-times.ensures.inside)))))))
