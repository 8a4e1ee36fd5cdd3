use Rattle.text.proofs.Prelude.{refl}
use Rattle.report.specs.Counts.{from, by_number}
use Rattle.report.specs.Figures.{empty}
use Rattle.total.specs.Total.{no_logs}
use Rattle.total.proofs.Total.new.Goals as goal

pub returns : goal.returns
unfolding no_logs empty by_number from
returns c = refl
