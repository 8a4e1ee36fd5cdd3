use Rattle.text.proofs.Prelude.{arith}
use Rattle.put.proofs.Writing.{then, wrote_nothing}
use Rattle.moment_text.specs.Answers.{found_text}
use Rattle.moment_text.proofs.put_found.Goals as goal

pub returns-in-Found : goal.returns-in-Found
unfolding found_text
returns-in-Found c = rw c.in-Found.is (search (then))

pub returns-in-NoSuchFix : goal.returns-in-NoSuchFix
unfolding found_text
returns-in-NoSuchFix c = rw c.in-NoSuchFix.is (wrote_nothing _ _ (omega arith) (omega arith))

pub returns-in-Refused : goal.returns-in-Refused
unfolding found_text
returns-in-Refused c = rw c.in-Refused.is (wrote_nothing _ _ (omega arith) (omega arith))
