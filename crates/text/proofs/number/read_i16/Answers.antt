use Rattle.text.specs.Prelude.{ok}
use Rattle.text.proofs.Prelude.{arith, ap, ◌∙◌, came}
use mir.Syntax.{w16, w32}
use mir.Val.{SFits}
use Rattle.text.proofs.Reading.{int_mag}
use Rattle.text.proofs.Signs.{narrows, narrowed}
use Rattle.text.proofs.number.read_i16.Goals as goal

-- the number that was read is of the width
fits : (c : goal.In_ok-value) → SFits w16 c.in_ok-value.value
fits c = record { sfits = omega (arith, int_mag _ _ (came c.in_ok-value.was c.read_int.ensures)) }

pub overflow_cast-result : goal.overflow_cast-result
overflow_cast-result c = narrows w16 w32 tt (fits c)

pub returns : goal.returns
returns c = ap ok (narrowed w16 w32 tt (fits c)) ∙ came c.in_ok-value.was c.read_int.ensures
