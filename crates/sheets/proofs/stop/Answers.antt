use Rattle.text.proofs.Prelude.{refl}
use Rattle.sheets.specs.Sheets.{stopped}
use Rattle.sheets.proofs.stop.Goals as goal

pub returns : goal.returns
unfolding stopped
returns c = refl
