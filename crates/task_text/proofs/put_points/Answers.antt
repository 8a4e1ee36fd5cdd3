use native.Mathlib.Omega.{arith}
use Rattle.task_text.proofs.Putting.{all_texts, no_text, at_start, next_put, all_put}
use Rattle.task_text.proofs.put_points.Goals as goal

pub loop-i-init : goal.loop-i-init
loop-i-init c = at_start (omega arith) (omega arith)

pub returns-then-log-place : goal.returns-then-log-place
returns-then-log-place c = all_put c.loop-i.invariant (no_text _ c.loop-i.place _ _ _ c.if-log-place.true)

pub loop-i-preserved : goal.loop-i-preserved
loop-i-preserved c =
    next_put c.loop-i.invariant c.line_at-seen.ensures c.loop-i-test.true c.if-log-place.false c.view-line.ensures.bytes
    c.put_point-end.ensures

pub returns : goal.returns
returns c = all_put c.loop-i.invariant (all_texts _ _ _ _ (omega arith))
