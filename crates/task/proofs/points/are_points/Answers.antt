use Rattle.std.proofs.Common.{◌∙◌}
use native.Mathlib.Omega.{arith}
use Rattle.task.proofs.Turns.{all_points, too_few, no_point, a_point}
use Rattle.task.proofs.points.are_points.Goals as goal

pub returns-then-log-place : goal.returns-then-log-place
returns-then-log-place c = too_few _ c.loop.place _ (omega arith) c.if-log-place.true ∙ c.loop.invariant

pub returns-in_default : goal.returns-in_default
returns-in_default c =
    no_point _ _ c.line_at-seen.ensures c.if-log-place.false _ (omega arith) c.in_default.not-Point ∙ c.loop.invariant

pub loop-preserved : goal.loop-preserved
loop-preserved c =
    a_point _ _ c.line_at-seen.ensures c.if-log-place.false _ _ (omega arith) c.in-Point.is ∙ c.loop.invariant

pub returns : goal.returns
returns c = all_points _ _ (omega arith) ∙ c.loop.invariant
