use Rattle.text.specs.Prelude.{padded}
use Rattle.put.proofs.Writing.{then}
use Rattle.print.proofs.number.put_nat.Goals as goal

pub returns : goal.returns
unfolding padded
returns c =
    rw (c.saturating_sub.ensures, c.places-k.ensures) at (then c.put_zeros-next.ensures c.put_digits.ensures)
