use Rattle.text.proofs.Prelude.{refl}
use Rattle.joins.specs.Halves.{not_whole}
use Rattle.joins.proofs.without.Goals as goal

pub returns : goal.returns
unfolding not_whole
returns c = refl
