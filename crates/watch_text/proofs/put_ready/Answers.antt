use Rattle.text.proofs.Prelude.{arith}
use Rattle.watch_text.proofs.Feeding.{at_start, at_end, cut_ends, counts_small, line, full}
use Rattle.watch_text.proofs.put_ready.Goals as goal

pub loop-taken-init : goal.loop-taken-init
loop-taken-init c = at_start c.requires (omega arith)

pub overflow_sub-cut : goal.overflow_sub-cut
overflow_sub-cut c =
    omega (arith, (cut_ends c.loop-taken.invariant c.loop-taken-test.true c.cut_at-cut.ensures).0)

pub after-after-requires : goal.after-after-requires
after-after-requires c = counts_small c.loop-taken.invariant c.loop-taken-test.true c.cut_at-cut.ensures

-- the text of the line here has no room
pub returns-then-buf-to : goal.returns-then-buf-to
returns-then-buf-to c =
    full c.loop-taken.invariant c.loop-taken-test.true c.cut_at-cut.ensures c.view-line.ensures.bytes
    c.after-after.ensures c.put-to.ensures c.if-buf-to.true

pub loop-taken-smaller : goal.loop-taken-smaller
loop-taken-smaller c =
    let ends = cut_ends c.loop-taken.invariant c.loop-taken-test.true c.cut_at-cut.ensures in
    omega (arith, ends.0, ends.1)

pub loop-taken-preserved : goal.loop-taken-preserved
loop-taken-preserved c =
    line c.loop-taken.invariant c.loop-taken-test.true c.cut_at-cut.ensures c.view-line.ensures.bytes
    c.after-after.ensures c.put-to.ensures c.if-buf-to.false

pub returns : goal.returns
returns c = at_end c.loop-taken.invariant c.loop-taken-test.false
