use Rattle.put.proofs.Writing.{then}
use Rattle.listing_text.specs.Line.{fix_heights}
use Rattle.listing_text.proofs.put_fix.Goals as goal

pub returns : goal.returns
unfolding fix_heights
returns c =
    then c.put_byte-at_pressure.ensures
    (then c.put-at_space.ensures (then c.put_byte-at_gps.ensures c.put.ensures))
