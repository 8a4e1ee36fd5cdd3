use Rattle.text.proofs.Prelude.{rules, arith, refl, sym, ◌∙◌}
use Rattle.igc_log.proofs.Reached.{at_start}
use Rattle.stream.proofs.Streaming.{went_on, stopped, put_more}
use Rattle.stream.proofs.write_lines.Goals as goal

pub loop-from-init : goal.loop-from-init
loop-from-init c = at_start

pub returns-then-taken-eq0 : goal.returns-then-taken-eq0
returns-then-taken-eq0 c = stopped c.loop-from.invariant refl

pub slice_bounds-write_text-end : goal.slice_bounds-write_text-end
slice_bounds-write_text-end c =
    let was = c.loop-from.invariant in
    let f = c.put_lines-fed in
    let h = (put_more was c.args.product c.args.names.now _ _ f.result c.loop-from-test.true f.ensures).1 in
    search rules

pub returns-then-is_err : goal.returns-then-is_err
returns-then-is_err c = stopped c.loop-from.invariant (sym c.is_err.ensures.value ∙ c.if-is_err.true)

pub loop-from-smaller : goal.loop-from-smaller
loop-from-smaller c =
    let was = c.loop-from.invariant in
    let f = c.put_lines-fed in
    let h = (put_more was c.args.product c.args.names.now _ _ f.result c.loop-from-test.true f.ensures).0 in
    omega (arith, h.inside, c.if-taken-eq0.false)

pub loop-from-preserved : goal.loop-from-preserved
loop-from-preserved c =
    let was = c.loop-from.invariant in
    let f = c.put_lines-fed in
    (put_more was c.args.product c.args.names.now _ _ f.result c.loop-from-test.true f.ensures).0

pub returns : goal.returns
returns c = went_on c.loop-from.invariant c.loop-from-test.false
