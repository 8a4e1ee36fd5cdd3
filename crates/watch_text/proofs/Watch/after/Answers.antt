use Rattle.report.specs.Report.{below_pressure, below_gps}
use Rattle.watch_text.proofs.Feeding.{held_after, past_line_lem}
use Rattle.watch_text.proofs.Watch.after.Goals as goal

pub returns : goal.returns
unfolding below_pressure below_gps
returns c =
    past_line_lem _ _ _
    (held_after _ _ _ c.after-report.result c.after-report.ensures c.parse_line.ensures c.rise.ensures c.rise-2.ensures)
