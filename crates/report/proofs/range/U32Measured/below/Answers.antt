use Rattle.report.specs.Figures.{earlier}
use Rattle.report.proofs.Figures.{less_earlier}
use Rattle.report.proofs.range.U32Measured.below.Goals as goal

pub returns : goal.returns
unfolding earlier
returns c = less_earlier _ _
