use Rattle.text.proofs.Prelude.{◌∙◌}
use Rattle.total.proofs.Adding.{adds}
use Rattle.total.proofs.Total.add.Goals as goal

pub returns : goal.returns
returns c = (rw c.of_log.ensures at c.join.ensures) ∙ adds _ _
