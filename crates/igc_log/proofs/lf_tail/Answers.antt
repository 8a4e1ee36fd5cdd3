use Rattle.text.proofs.Prelude.{arith, refl}
use Rattle.igc_log.proofs.Ends.{up_to_here, up_to_next, up_to_none}
use Rattle.igc_log.proofs.lf_tail.Goals as goal

pub returns-then-log-i-eq10 : goal.returns-then-log-i-eq10
returns-then-log-i-eq10 c = up_to_here _ _ (omega arith) c.if-log-i-eq10.true c.loop-i.invariant

pub loop-i-preserved : goal.loop-i-preserved
loop-i-preserved c = up_to_next _ _ _ refl (omega arith) c.if-log-i-eq10.false c.loop-i.invariant

pub returns : goal.returns
returns c = omega (arith, up_to_none _ _ c.loop-i-test.false c.loop-i.invariant)
