use Rattle.std.proofs.Common.{◌≡◌, sym, ◌∙◌, drop}
use Rattle.text.specs.Prelude.{pick}
use Rattle.task_line.specs.Lines.{task_lines}
use Rattle.task.specs.Sheet.{sheet, refused, sheet_from}
use Rattle.task_text.specs.Points.{points_text}
use Rattle.task.specs.declared.TaskRefusal.{TaskRefusal}
use Rattle.task.proofs.Printing.{none, no_room, written}
use Rattle.task.proofs.print_points.Goals as goal

pub returns-then-not-are_points : goal.returns-then-not-are_points
unfolding sheet_from pick
returns-then-not-are_points c =
    let lines = task_lines (drop c.args.from c.args.log.now) in
    let interrupted : refused TaskRefusal.Interrupted ≡ sheet_from c.args.labels.now c.args.points lines =
    rw (sym c.are_points.ensures ∙ c.if-not-are_points.true)
    in none _ interrupted

pub returns-then-buf-put_points : goal.returns-then-buf-put_points
unfolding sheet_from pick
returns-then-buf-put_points c =
    let lines = task_lines (drop c.args.from c.args.log.now) in
    let points : sheet (points_text c.args.labels.now 1 c.args.points lines)
    ≡ sheet_from c.args.labels.now c.args.points lines =
    rw (sym c.are_points.ensures ∙ c.if-not-are_points.false)
    in no_room points c.put_points.ensures c.if-buf-put_points.true

pub returns : goal.returns
unfolding sheet_from pick
returns c =
    let lines = task_lines (drop c.args.from c.args.log.now) in
    let points : sheet (points_text c.args.labels.now 1 c.args.points lines)
    ≡ sheet_from c.args.labels.now c.args.points lines =
    rw (sym c.are_points.ensures ∙ c.if-not-are_points.false)
    in written points c.put_points.ensures c.if-buf-put_points.false c.put_points-2.ensures
