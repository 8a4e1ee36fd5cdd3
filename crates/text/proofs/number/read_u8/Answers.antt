use Rattle.text.proofs.Prelude.{arith, came}
use Rattle.text.proofs.Reading.{nat_le}
use Rattle.text.proofs.number.read_u8.Goals as goal

-- the number that was read is of the width
pub overflow_cast-result : goal.overflow_cast-result
overflow_cast-result c = omega (arith, nat_le _ _ (came c.in_ok-value.was c.read_nat.ensures))
