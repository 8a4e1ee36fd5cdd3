use Rattle.text.specs.Prelude.{pick, ◌≤?◌, ◌∨?◌}
use Rattle.text.proofs.Prelude.{arith}
use Rattle.std.proofs.lemmas.Bool.Decides.{nat_tests}
use Rattle.reported.specs.Flat.{full_by}
use Rattle.reported.proofs.flat.Flat.is_full.Goals as goal

pub returns-then-self-ge18446744073709551615 : goal.returns-then-self-ge18446744073709551615
unfolding full_by pick ◌≤?◌ ◌∨?◌
returns-then-self-ge18446744073709551615 c = grind (arith, nat_tests)

pub returns-then-self-ge18446744073709551615-2 : goal.returns-then-self-ge18446744073709551615-2
unfolding full_by pick ◌≤?◌ ◌∨?◌
returns-then-self-ge18446744073709551615-2 c = grind (arith, nat_tests)

pub returns : goal.returns
unfolding full_by pick ◌≤?◌ ◌∨?◌
returns c = grind (arith, nat_tests)
