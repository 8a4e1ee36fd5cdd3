use Rattle.text.proofs.Prelude.{refl}
use Rattle.report.specs.Report.{below_pressure, below_gps}
use Rattle.report.proofs.Taking.{valid_fix, warned_fix}
use Rattle.report.proofs.Report.with_fix.Goals as goal

pub returns-in-Valid : goal.returns-in-Valid
unfolding below_pressure below_gps
returns-in-Valid c =
    valid_fix _ _ _ c.seconds_since_midnight.ensures c.after-times.ensures c.in-Valid.is refl refl c.after-pressure.ensures
    c.after-gps.ensures

pub returns-in-NavWarning : goal.returns-in-NavWarning
returns-in-NavWarning c = warned_fix _ _ _ c.seconds_since_midnight.ensures c.after-times.ensures c.in-NavWarning.is
