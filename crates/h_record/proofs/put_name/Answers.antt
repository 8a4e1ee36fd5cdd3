use Rattle.text.proofs.Prelude.{arith}
use Rattle.part.specs.Part.{find_maybe}
use Rattle.put.proofs.Writing.{then, wrote_nothing}
use Rattle.h_record.specs.HRecord.{name_text}
use Rattle.h_record.proofs.put_name.Goals as goal

pub returns-in-None : goal.returns-in-None
unfolding name_text find_maybe
returns-in-None c = rw c.in-None.is (wrote_nothing _ _ (omega arith) (omega arith))

pub returns-in-Some : goal.returns-in-Some
unfolding name_text find_maybe
returns-in-Some c = rw c.in-Some.is (then c.put_part-at_colon.ensures c.put_byte.ensures)
