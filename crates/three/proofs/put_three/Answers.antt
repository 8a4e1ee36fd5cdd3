use Rattle.put.proofs.Writing.{then}
use Rattle.three.specs.Three.{three_text}
use Rattle.three.proofs.put_three.Goals as goal

pub returns : goal.returns
unfolding three_text
returns c = then c.put_nat-at_second.ensures (then c.put_nat-at_third.ensures c.put_nat.ensures)
