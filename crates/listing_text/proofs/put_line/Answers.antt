use Rattle.put.proofs.Writing.{then}
use Rattle.listing_text.specs.Line.{listing_line}
use Rattle.listing_text.proofs.put_line.Goals as goal

pub returns : goal.returns
unfolding listing_line
returns c =
    then c.put_head-at_heights.ensures
    (then (rw c.fix_in.ensures at c.put_heights-at_end.ensures) c.put_byte.ensures)
