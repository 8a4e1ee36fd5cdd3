use Rattle.text.specs.Prelude.{◌∨?◌, pick}
use Rattle.text.proofs.Prelude.{sym, ◌∙◌}
use Rattle.reported.specs.End.{sets_table_of}
use Rattle.reported.proofs.end.sets_table.Goals as goal

pub returns-then-begins : goal.returns-then-begins
unfolding sets_table_of ◌∨?◌ pick
returns-then-begins c = rw (sym c.begins.ensures ∙ c.if-begins.true)

pub returns : goal.returns
unfolding sets_table_of ◌∨?◌ pick
returns c = rw (sym c.begins.ensures ∙ c.if-begins.false) c.begins-2.ensures
