use Rattle.text.proofs.Prelude.{refl}
use Rattle.time.specs.Time.{seconds_of_lem}
use Rattle.time.proofs.Time.seconds_since_midnight.Goals as goal

pub returns : goal.returns
unfolding seconds_of_lem
returns c = refl
