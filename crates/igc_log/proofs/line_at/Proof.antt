use Rattle.text.proofs.Prelude.{rules}
use Rattle.igc_log.proofs.line_at.Statement.{statement}
use Rattle.igc_log.proofs.line_at.Tie as tie

shows : tie.Need-returns
shows c = rw c.before.before.cut_at.ensures at c.view.ensures

pub line_at_spec : {M : Type 1} → statement M
line_at_spec = tie.close (tie.spec (search rules) (search rules) shows)
