use Rattle.text.proofs.Prelude.{refl}
use Rattle.report.specs.Counts.{from, by_number}
use Rattle.report.specs.Figures.{empty}
use Rattle.report.proofs.Report.new.Goals as goal

pub returns : goal.returns
unfolding empty by_number from
returns c = refl
