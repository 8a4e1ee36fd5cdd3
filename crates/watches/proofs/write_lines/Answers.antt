use Rattle.text.proofs.Prelude.{rules, arith, refl, sym, ◌∙◌}
use Rattle.igc_log.proofs.Reached.{at_start}
use Rattle.watches.proofs.Watching.{went_on, failed, put_more}
use Rattle.watches.proofs.write_lines.Goals as goal

pub loop-from-init : goal.loop-from-init
loop-from-init c = at_start

pub returns-then-taken-eq0 : goal.returns-then-taken-eq0
returns-then-taken-eq0 c = failed c.loop-from.invariant refl

pub slice_bounds-write_text-end : goal.slice_bounds-write_text-end
slice_bounds-write_text-end c =
    let put =
    put_more c.args.w c.loop-from.watch c.loop-from.invariant _ _ c.put_lines-put.result c.loop-from-test.true
    c.put_lines-put.ensures in
    let h = put.1 in
    search rules

pub returns-then-is_err : goal.returns-then-is_err
returns-then-is_err c = failed c.loop-from.invariant (sym c.is_err.ensures.value ∙ c.if-is_err.true)

pub loop-from-smaller : goal.loop-from-smaller
loop-from-smaller c =
    let put =
    put_more c.args.w c.loop-from.watch c.loop-from.invariant _ _ c.put_lines-put.result c.loop-from-test.true
    c.put_lines-put.ensures in
    let h = put.0 in
    omega (arith, h.inside, c.if-taken-eq0.false)

pub loop-from-preserved : goal.loop-from-preserved
loop-from-preserved c =
    let put =
    put_more c.args.w c.loop-from.watch c.loop-from.invariant _ _ c.put_lines-put.result c.loop-from-test.true
    c.put_lines-put.ensures in
    put.0

pub returns : goal.returns
returns c = went_on c.loop-from.invariant c.loop-from-test.false
