use Rattle.text.proofs.Prelude.{arith}
use Rattle.walk.proofs.Turns.{less_left}
use Rattle.listing_text.proofs.Telling.{at_start, at_end, line}
use Rattle.listing_text.proofs.listing.put_listing.Goals as goal

pub loop-place-init : goal.loop-place-init
loop-place-init c = rw c.new-trailer.ensures (at_start _ _ _ (omega arith) (omega arith) (omega arith))

pub loop-place-smaller : goal.loop-place-smaller
loop-place-smaller c =
    less_left c.loop-place-test.true c.loop-place.invariant.reached c.read_at-got.ensures

pub loop-place-preserved : goal.loop-place-preserved
loop-place-preserved c =
    line c.loop-place.invariant c.loop-place-test.true c.read_at-got.ensures c.view-line.ensures.bytes
    c.after-trailer.ensures c.put_line-end.ensures

pub returns : goal.returns
returns c = at_end c.loop-place.invariant c.loop-place-test.false c.put.ensures
