use Rattle.text.proofs.Prelude.{refl}
use Rattle.sheet_file.specs.File.{stopped}
use Rattle.sheet_file.proofs.stop.Goals as goal

pub returns : goal.returns
unfolding stopped
returns c = refl
