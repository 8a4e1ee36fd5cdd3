use Rattle.text.specs.Prelude.{pick, ◌≤?◌, ◌∧?◌}
use Rattle.text.proofs.Prelude.{arith}
use Rattle.std.proofs.lemmas.Bool.Decides.{nat_tests}
use Rattle.trailer_text.specs.Trailer.{counted, tallied}
use Rattle.trailer_text.proofs.Trailer.after.Goals as goal

pub returns-then-self-eq18446744073709551615 : goal.returns-then-self-eq18446744073709551615
unfolding tallied pick ◌≤?◌ ◌∧?◌
returns-then-self-eq18446744073709551615 c = grind (arith, nat_tests)

pub returns : goal.returns
unfolding tallied counted pick ◌≤?◌ ◌∧?◌
returns c = grind (arith, nat_tests)
