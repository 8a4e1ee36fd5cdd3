use Rattle.text.specs.Prelude.{◌≡◌}
use Rattle.text.proofs.Prelude.{rules}
use mir.Syntax.{w8}
use mir.Val.{to_z, of_z}
use Rattle.put.proofs.Writing.{then}
use Rattle.c_record.specs.CRecord.{task_text}
use Rattle.c_record.proofs.CRecordDeclaration.put_task.Goals as goal

-- the count as the machine holds it
pub returns : goal.returns
unfolding task_text
returns c =
    let back : to_z w8 (of_z w8 c.args.self.turnpoint_count) ≡ c.args.self.turnpoint_count = search rules in
    let count = rw back at c.put_i8-at_name.ensures in
    then c.put_flight-at_id.ensures (then c.put_nat-at_count.ensures (then count c.put_part.ensures))
