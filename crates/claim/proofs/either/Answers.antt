use Rattle.text.specs.Prelude.{◌∨?◌, pick}
use Rattle.claim.proofs.either.Goals as goal

pub returns-then-one : goal.returns-then-one
unfolding ◌∨?◌ pick
returns-then-one c = rw c.if-one.true

pub returns-else-one : goal.returns-else-one
unfolding ◌∨?◌ pick
returns-else-one c = rw c.if-one.false
