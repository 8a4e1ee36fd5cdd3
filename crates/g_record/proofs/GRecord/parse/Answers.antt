use Rattle.text.proofs.Prelude.{pass, stop, so_true, so_false}
use Rattle.g_record.specs.GRecord.{read_g}
use Rattle.g_record.proofs.GRecord.parse.Goals as goal

pub returns-then-not-begins : goal.returns-then-not-begins
unfolding read_g
returns-then-not-begins c = stop _ (so_false c.begins.ensures c.if-not-begins.true)

pub returns : goal.returns
unfolding read_g
returns c = pass _ (so_true c.begins.ensures c.if-not-begins.false) (rw c.from_column.ensures)
