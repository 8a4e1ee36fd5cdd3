use Rattle.text.proofs.Prelude.{arith}
use Rattle.walk.proofs.Turns.{less_left}
use Rattle.products.proofs.Feeding.{at_start, at_end, place_small, counts_small, line, full}
use Rattle.products.proofs.put_ready.Goals as goal

pub loop-taken-init : goal.loop-taken-init
loop-taken-init c = at_start c.requires (omega arith)

-- no number of a line passes 64 bits
pub overflow_add-number : goal.overflow_add-number
overflow_add-number c = omega (arith, (counts_small c.loop-taken.invariant c.loop-taken-test.true).0)

pub overflow_add-number-in-loop-taken : goal.overflow_add-number-in-loop-taken
overflow_add-number-in-loop-taken c = omega (arith, (counts_small c.loop-taken.invariant c.loop-taken-test.true).0)

-- no place does
pub overflow_add-at : goal.overflow_add-at
overflow_add-at c = omega (arith, place_small c.loop-taken.invariant)

pub overflow_add-base : goal.overflow_add-base
overflow_add-base c = omega (arith, place_small c.loop-taken.invariant)

pub overflow_add-at-2 : goal.overflow_add-at-2
overflow_add-at-2 c = omega (arith, place_small c.loop-taken.invariant)

-- the text of the line here has no room
pub returns-then-buf-to : goal.returns-then-buf-to
returns-then-buf-to c =
    full c.loop-taken.invariant c.loop-taken-test.true c.read_at-got.ensures c.view-line.ensures.bytes
    c.after-after.ensures c.put_line-to.ensures c.if-buf-to.true

pub loop-taken-smaller : goal.loop-taken-smaller
loop-taken-smaller c =
    less_left c.loop-taken-test.true c.loop-taken.invariant.reached c.read_at-got.ensures

pub loop-taken-preserved : goal.loop-taken-preserved
loop-taken-preserved c =
    line c.loop-taken.invariant c.loop-taken-test.true c.read_at-got.ensures c.view-line.ensures.bytes
    c.after-after.ensures c.put_line-to.ensures c.after-trailer.ensures c.if-buf-to.false

pub returns : goal.returns
returns c = at_end c.loop-taken.invariant c.loop-taken-test.false
