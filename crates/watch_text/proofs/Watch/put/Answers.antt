use Rattle.put.proofs.Writing.{then}
use Rattle.watch_text.specs.Watch.{watch_line}
use Rattle.watch_text.proofs.Watch.put.Goals as goal

pub returns : goal.returns
unfolding watch_line
returns c = search (then)
