use Rattle.std.proofs.Common.{rules, ◌∙◌}
use mir.Syntax.{w8}
use mir.Val.{SFits}
use mir.Facts.{to_z-of_z}
use Rattle.task.proofs.Turns.{no_declaration, declared_here, declared_later}
use Rattle.task.proofs.lines.find_declaration.Goals as goal

pub returns-in-Declaration : goal.returns-in-Declaration
returns-in-Declaration c =
    let fits : SFits w8 c.in-Declaration.count = search rules in
    rw (to_z-of_z fits)
    (declared_here _ _ c.line_at-seen.ensures c.loop-place-test.true c.in-Declaration.is ∙ c.loop-place.invariant)

pub loop-place-preserved : goal.loop-place-preserved
loop-place-preserved c =
    declared_later _ _ c.line_at-seen.ensures c.loop-place-test.true c.in_default.not-Declaration
    ∙ c.loop-place.invariant

pub returns : goal.returns
returns c = no_declaration _ _ c.loop-place-test.false ∙ c.loop-place.invariant
