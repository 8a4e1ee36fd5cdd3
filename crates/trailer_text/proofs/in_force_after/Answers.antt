use Rattle.text.specs.Prelude.{pick, ◌=?◌}
use Rattle.text.proofs.Prelude.{arith}
use Rattle.std.proofs.lemmas.Bool.Decides.{nat_tests}
use Rattle.trailer_text.specs.Trailer.{force_after}
use Rattle.trailer_text.proofs.in_force_after.Goals as goal

pub returns-then-not-begins : goal.returns-then-not-begins
unfolding force_after pick
returns-then-not-begins c = grind arith

pub returns-in-0 : goal.returns-in-0
unfolding force_after pick ◌=?◌
returns-in-0 c = grind (arith, nat_tests)

pub returns-in_default : goal.returns-in_default
unfolding force_after pick ◌=?◌
returns-in_default c = grind (arith, nat_tests)
