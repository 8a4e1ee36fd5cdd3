use Rattle.text.proofs.Prelude.{arith, so_true, so_false}
use Rattle.text.proofs.Reading.{over_other, over_next, over_done}
use Rattle.text.proofs.number.too_large.Goals as goal

pub returns-then-not-is_digit : goal.returns-then-not-is_digit
returns-then-not-is_digit c =
    over_other _ _ _ _ (omega arith) c.loop-i.invariant (so_false c.is_digit.ensures c.if-not-is_digit.true)

pub loop-i-preserved : goal.loop-i-preserved
loop-i-preserved c =
    over_next _ _ _ _ (omega arith) c.loop-i.invariant (so_true c.is_digit.ensures c.if-not-is_digit.false)

pub returns : goal.returns
returns c = over_done _ _ _ _ (omega arith) c.loop-i.invariant
