use Rattle.text.specs.Prelude.{code, ◌=?◌, ◌∨?◌}
use Rattle.text.proofs.Prelude.{refl, first, second, yes=, no=}
use Rattle.table.specs.Table.{is_table_of}
use Rattle.table.proofs.is_table.Goals as goal

pub returns-then-letter-eq73 : goal.returns-then-letter-eq73
unfolding is_table_of ◌∨?◌ ◌=?◌
returns-then-letter-eq73 c = first _ (yes= {b = code "I"} c.if-letter-eq73.true) (yes= c.if-letter-eq73.true)

pub returns-else-letter-eq73 : goal.returns-else-letter-eq73
unfolding is_table_of ◌∨?◌ ◌=?◌
returns-else-letter-eq73 c = second _ (no= {b = code "I"} c.if-letter-eq73.false) refl
