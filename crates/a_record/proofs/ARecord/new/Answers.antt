use Rattle.text.proofs.Prelude.{refl}
use Rattle.a_record.specs.ARecord.{a_new}
use Rattle.a_record.proofs.ARecord.new.Goals as goal

pub returns : goal.returns
unfolding a_new
returns c = refl
