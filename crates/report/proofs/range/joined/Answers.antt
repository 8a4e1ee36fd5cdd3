use Rattle.report.specs.Range.{joined}
use Rattle.report.proofs.range.joined.Goals as goal

pub returns-in-None-default : goal.returns-in-None-default
unfolding joined
returns-in-None-default g c = rw c.in-None-default.is-0

pub returns-in_default-None : goal.returns-in_default-None
unfolding joined
returns-in_default-None g c = rw (c.in_default-None.is-0, c.in_default-None.is-1)

pub returns-in-Some-Some : goal.returns-in-Some-Some
unfolding joined
returns-in-Some-Some g c =
    rw (c.in-Some-Some.is-0, c.in-Some-Some.is-1, c.higher.ensures, c.lower.ensures)
