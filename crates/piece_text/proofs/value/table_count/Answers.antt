use Rattle.text.proofs.Prelude.{sym, ◌∙◌}
use Rattle.piece_text.specs.Value.{table_names}
use Rattle.piece_text.proofs.Names.{count_names}
use Rattle.piece_text.proofs.value.table_count.Goals as goal

pub returns-in-Never : goal.returns-in-Never
unfolding table_names
returns-in-Never c = rw c.in-Never.is

pub returns-in-Spoiled : goal.returns-in-Spoiled
unfolding table_names
returns-in-Spoiled c = rw c.in-Spoiled.is

pub returns-in-Set : goal.returns-in-Set
returns-in-Set c = rw c.in-Set.is (c.definition_count.ensures ∙ sym (count_names c.in-Set.table))
