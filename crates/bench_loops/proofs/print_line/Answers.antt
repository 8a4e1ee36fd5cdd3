use Rattle.text.specs.Prelude.{bind}
use Rattle.text.proofs.Prelude.{refl, ap, came}
use Rattle.print.specs.Print.{answer_to, left_by}
use Rattle.record_print.specs.Printed.{answer_printed}
use Rattle.bench_loops.specs.Timed.{written_length}
use Rattle.bench_loops.proofs.print_line.Goals as goal

pub returns-in-Err : goal.returns-in-Err
unfolding answer_printed written_length answer_to left_by bind
returns-in-Err c = rw c.in-Err.is (record { answer = refl; left = refl })

pub returns-in-Ok-print_record : goal.returns-in-Ok-print_record
unfolding answer_printed written_length bind
returns-in-Ok-print_record c =
    let p = rw c.table.ensures at c.print_record.ensures in
    rw c.in-Ok.is (record { answer = ap written_length (came c.in-Ok-print_record.is p.answer); left = p.left })

pub returns-in-Err-print_record : goal.returns-in-Err-print_record
unfolding answer_printed written_length bind
returns-in-Err-print_record c =
    let p = rw c.table.ensures at c.print_record.ensures in
    rw c.in-Ok.is (record { answer = ap written_length (came c.in-Err-print_record.is p.answer); left = p.left })
