use Rattle.text.specs.Prelude.{length}
use Rattle.text.proofs.Prelude.{arith, sym, ap, ◌∙◌}
use Rattle.piece_text.proofs.Names.{in_threes, given, of_table}
use Rattle.piece_text.proofs.value.asked_count.Goals as goal

pub returns-then-names-ge3 : goal.returns-then-names-ge3
returns-then-names-ge3 c = sym (in_threes _) ∙ ap length (given _ _ (omega arith))

pub returns : goal.returns
returns c = c.table_count.ensures ∙ ap length (of_table _ _ (omega arith))
