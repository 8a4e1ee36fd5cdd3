use Rattle.text.proofs.Prelude.{arith, refl, pass, stop, yes≤, no≤}
use Rattle.print.proofs.Printing.{refused, prints_found}
use Rattle.table.specs.Table.{table_text}
use Rattle.table.proofs.Table.print.Goals as goal

pub returns-then-self-gt99 : goal.returns-then-self-gt99
unfolding table_text
returns-then-self-gt99 c = refused _ (stop _ (no≤ (omega arith)))

pub returns : goal.returns
unfolding table_text
returns c = prints_found (pass _ (yes≤ (omega arith)) refl) c.print_piece.ensures
