use Rattle.text.specs.Prelude.{bind}
use Rattle.text.proofs.Prelude.{arith, pass, stop, yes≤, no≤}
use Rattle.held.specs.Held.{in_force, define}
use Rattle.held.proofs.Held.define.Goals as goal

pub returns-in-Never : goal.returns-in-Never
unfolding define in_force bind
returns-in-Never c = rw c.in-Never.is

pub returns-in-Spoiled : goal.returns-in-Spoiled
unfolding define in_force bind
returns-in-Spoiled c = rw c.in-Spoiled.is

pub returns-then-table-gt99 : goal.returns-then-table-gt99
unfolding define in_force bind
returns-then-table-gt99 c = rw c.in-Set.is (stop _ (no≤ (omega arith)))

pub returns-else-table-gt99 : goal.returns-else-table-gt99
unfolding define in_force bind
returns-else-table-gt99 c = rw c.in-Set.is (pass _ (yes≤ (omega arith)) c.first_named.ensures)
