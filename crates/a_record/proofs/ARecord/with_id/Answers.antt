use Rattle.text.proofs.Prelude.{◌∙◌}
use Rattle.a_record.specs.ARecord.{a_of}
use Rattle.a_record.proofs.ARecord.with_id.Goals as goal

pub returns : goal.returns
unfolding a_of
returns c = c.new.ensures ∙ rw c.from_column_or_none.ensures
