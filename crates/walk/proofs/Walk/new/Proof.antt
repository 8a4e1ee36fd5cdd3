use Rattle.text.proofs.Prelude.{rules}
use Rattle.report.proofs.Answers.{report_is}
use Rattle.walk.specs.Walk.{fresh}
use Rattle.walk.proofs.Walk.new.Statement.{statement}
use Rattle.walk.proofs.Walk.new.Tie as tie

made : tie.Need-returns
unfolding fresh
made c =
    let report = c.before.new-report in
    rw (c.before.before.new-held.ensures, report_is report.result report.ensures, c.new-at.ensures)

pub new_spec : {M : Type 1} → statement M
new_spec = tie.close (tie.spec (search rules) (search rules) (search rules) made)
