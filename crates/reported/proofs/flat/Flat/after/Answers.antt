use Rattle.report.specs.Report.{below_pressure, below_gps}
use Rattle.reported.specs.Flat.{with_pressure, with_gps, glanced}
use Rattle.reported.proofs.flat.Flat.after.Goals as goal

pub returns : goal.returns
unfolding glanced with_pressure with_gps below_pressure below_gps
returns c answers = rw (c.after.ensures, c.after-2.ensures, c.after-3.ensures, c.one_if.ensures)
