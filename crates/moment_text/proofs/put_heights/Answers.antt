use Rattle.put.proofs.Writing.{then}
use Rattle.moment_text.specs.Answers.{heights_text}
use Rattle.moment_text.proofs.put_heights.Goals as goal

pub returns : goal.returns
unfolding heights_text
returns c = search (then)
