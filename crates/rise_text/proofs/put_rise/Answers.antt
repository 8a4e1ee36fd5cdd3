use Rattle.text.proofs.Prelude.{arith}
use Rattle.put.proofs.Writing.{then, wrote_nothing}
use Rattle.rise_text.specs.Rise.{rise_text_of, rise_line}
use Rattle.rise_text.proofs.put_rise.Goals as goal

pub returns-in_default : goal.returns-in_default
unfolding rise_line
returns-in_default g c = rw c.in_default.is (wrote_nothing _ _ (omega arith) (omega arith))

pub returns : goal.returns
unfolding rise_line rise_text_of
returns g c = rw c.in-Some.is (search (then))
