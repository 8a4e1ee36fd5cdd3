use Rattle.text.specs.Prelude.{◌≡◌, no, cut, columns}
use Rattle.text.proofs.Prelude.{rules, refl, ◌∙◌, came, on, off, counted}
use mir.Syntax.{w8}
use mir.Val.{to_z, of_z}
use Rattle.c_record.specs.CRecord.{read_task_of}
use Rattle.c_record.proofs.read_task.Goals as goal

pub returns-in_err-id : goal.returns-in_err-id
unfolding read_task_of columns cut
returns-in_err-id c =
    let left : c.from_residual.result ≡ no c.in_err-id.field-0.0 = search rules in
    left ∙ off _ (came c.in_err-id.was (counted 19 c.counted_from.ensures c.read_u16.ensures))

pub returns-in_err-count : goal.returns-in_err-count
unfolding read_task_of columns cut
returns-in_err-count c =
    let left : c.from_residual-in_err-count.result ≡ no c.in_err-count.field-0.0 = search rules in
    let id = came c.in_ok-id.was (counted 19 c.counted_from.ensures c.read_u16.ensures) in
    left ∙ on _ id (off _ (came c.in_err-count.was (counted 23 c.counted_from-2.ensures c.read_i8.ensures)))

-- the count as the machine holds it
pub returns : goal.returns
unfolding read_task_of columns cut
returns c =
    let id = came c.in_ok-id.was (counted 19 c.counted_from.ensures c.read_u16.ensures) in
    let count = came c.in_ok-count.was (counted 23 c.counted_from-2.ensures c.read_i8.ensures) in
    let back : to_z w8 (of_z w8 c.in_ok-count.count) ≡ c.in_ok-count.count = search rules in
    rw back (on _ id (on _ count refl))
