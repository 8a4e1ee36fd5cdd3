use Rattle.task_line.proofs.Seeing.{sees}
use Rattle.task_line.proofs.line_at.Goals as goal

pub returns : goal.returns
returns c =
    sees _ _ c.parse_line-reading.result c.cut_ahead-cut.ensures c.view.ensures.bytes c.parse_line-reading.ensures
    c.kind_of-kind.ensures
