use Rattle.text.proofs.Prelude.{arith}
use Rattle.sheet_read.proofs.Lines.{ends_part}
use Rattle.sheet_read.proofs.wrong_at.Goals as goal

pub overflow_add-line : goal.overflow_add-line
overflow_add-line c =
    record { fits = omega (arith, c.count_ends-line.ensures, ends_part c.args.stop c.args.text.now) }
