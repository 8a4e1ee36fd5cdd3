use Rattle.text.proofs.Prelude.{ap, ◌∙◌}
use Rattle.joins.specs.Halves.{joined_on, halves_in}
use Rattle.joins.proofs.after_total.Goals as goal

pub returns-in-Ok : goal.returns-in-Ok
unfolding joined_on
returns-in-Ok c = ap (joined_on (halves_in c.args.before)) (rw c.in-Ok.is at c.join.ensures)

pub returns-in-Err : goal.returns-in-Err
unfolding joined_on
returns-in-Err c =
    c.without.ensures ∙ ap (joined_on (halves_in c.args.before)) (rw c.in-Err.is at c.join.ensures)
