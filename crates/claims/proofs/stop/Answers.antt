use Rattle.text.proofs.Prelude.{refl}
use Rattle.claims.specs.Claims.{stopped}
use Rattle.claims.proofs.stop.Goals as goal

pub returns : goal.returns
unfolding stopped
returns c = refl
