use Rattle.text.proofs.Prelude.{refl}
use Rattle.manufacturer.specs.Maker.{triple_number}
use Rattle.manufacturer.proofs.number.Goals as goal

pub returns : goal.returns
unfolding triple_number
returns c = refl
