use Rattle.text.proofs.Prelude.{ap, ◌∙◌}
use Rattle.sheet_file.specs.File.{ended_as, last_turn}
use Rattle.sheet_file.proofs.finish.Goals as goal

pub returns-in-Ok : goal.returns-in-Ok
unfolding ended_as last_turn
returns-in-Ok c = c.stop.ensures ∙ ap (ended_as c.args.before) (rw c.in-Ok.is at c.read_sheet.ensures)

pub returns-in-Err : goal.returns-in-Err
unfolding ended_as last_turn
returns-in-Err c =
    (rw c.count_on.ensures at c.stop-in-Err.ensures)
    ∙ ap (ended_as c.args.before) (rw c.in-Err.is at c.read_sheet.ensures)
