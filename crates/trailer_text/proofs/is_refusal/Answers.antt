use Rattle.text.specs.Prelude.{pick, ◌≤?◌, ◌∧?◌}
use Rattle.text.proofs.Prelude.{arith}
use Rattle.std.proofs.lemmas.Bool.Decides.{nat_tests}
use Rattle.trailer_text.specs.Trailer.{is_refusal_of}
use Rattle.trailer_text.proofs.is_refusal.Goals as goal

pub returns-then-answer-ge1 : goal.returns-then-answer-ge1
unfolding is_refusal_of pick ◌≤?◌ ◌∧?◌
returns-then-answer-ge1 c = grind (arith, nat_tests)

pub returns-else-answer-ge1 : goal.returns-else-answer-ge1
unfolding is_refusal_of pick ◌≤?◌ ◌∧?◌
returns-else-answer-ge1 c = grind (arith, nat_tests)
