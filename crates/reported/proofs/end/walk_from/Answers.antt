use Rattle.report.proofs.Answers.{report_is}
use Rattle.reported.specs.End.{walk_from_of}
use Rattle.reported.proofs.end.walk_from.Goals as goal

pub returns : goal.returns
unfolding walk_from_of
returns c = rw (report_is c.report-report.result c.report-report.ensures)
