use Rattle.reported.specs.Flat.{ranged}
use Rattle.reported.proofs.Keeping.{ranged_some}
use Rattle.reported.proofs.heights.Ends.range.Goals as goal

pub returns-then-self-eq0 : goal.returns-then-self-eq0
unfolding ranged
returns-then-self-eq0 g c = rw c.if-self-eq0.true

pub returns : goal.returns
returns g c = ranged_some _ _ _ c.if-self-eq0.false
