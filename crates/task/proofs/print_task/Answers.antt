use Rattle.std.proofs.Common.{rules, ◌≡◌, ap, sym, ◌∙◌}
use mir.Syntax.{w8}
use mir.Val.{SFits}
use mir.Facts.{to_z-of_z}
use Rattle.text.specs.Prelude.{no}
use Rattle.text.proofs.Prelude.{came}
use Rattle.task.specs.Sheet.{declared_in, sheet_after, sheet_of, size_of}
use Rattle.task.proofs.Printing.{none, negative, asked}
use Rattle.task.proofs.print_task.Goals as goal

pub returns-in_default : goal.returns-in_default
unfolding sheet_of sheet_after
returns-in_default c =
    none _ (ap (sheet_after _) (sym (ap (declared_in _) c.in_default.is) ∙ c.find_declaration.ensures))

-- the size is that of the count which was found
pub returns-in_err-points : goal.returns-in_err-points
unfolding sheet_of
returns-in_err-points c =
    let fits : SFits w8 c.in-Some.task.count = search rules in
    let size_is : c.size_of.result ≡ size_of c.in-Some.task.count = rw (to_z-of_z fits) at c.size_of.ensures in
    let found = sym (ap (declared_in _) c.in-Some.is) ∙ c.find_declaration.ensures in
    let left : c.from_residual.result ≡ no c.in_err-points.field-0.0 = search rules in
    rw left (none _ (negative _ _ _ (came c.in_err-points.was size_is) ∙ ap (sheet_after _) found))

pub returns : goal.returns
unfolding sheet_of
returns c =
    let fits : SFits w8 c.in-Some.task.count = search rules in
    let size_is : c.size_of.result ≡ size_of c.in-Some.task.count = rw (to_z-of_z fits) at c.size_of.ensures in
    let found = sym (ap (declared_in _) c.in-Some.is) ∙ c.find_declaration.ensures in
    rw (asked _ _ _ (came c.in_ok-points.was size_is), ap (sheet_after _) found) at c.print_points.ensures
