use Rattle.std.proofs.Common.{rules}
use mir.Syntax.{w8}
use mir.Val.{SFits}
use mir.Facts.{to_z-of_z}
use Rattle.put.proofs.Writing.{then}
use Rattle.record_text.specs.Record.{task_shown}
use Rattle.record_text.proofs.record.show_task.Goals as goal

pub returns : goal.returns
unfolding task_shown
returns c =
    let fits : SFits w8 c.args.task.turnpoint_count = search rules in
    rw (to_z-of_z fits)
    at (then c.show_number-at_space.ensures
    (then c.put_byte-at_count.ensures (then c.put_i8-at_name.ensures c.show_maybe.ensures)))
