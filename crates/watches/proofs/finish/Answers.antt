use Rattle.watches.proofs.Watching.{finished}
use Rattle.watches.proofs.finish.Goals as goal

pub returns : goal.returns
returns c = finished c.write_lines-went.ensures c.stop.ensures
