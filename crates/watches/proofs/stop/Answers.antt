use Rattle.text.proofs.Prelude.{refl}
use Rattle.watches.specs.Watching.{stopped}
use Rattle.watches.proofs.stop.Goals as goal

pub returns : goal.returns
unfolding stopped
returns c = refl
