use Rattle.text.specs.Prelude.{◌=?◌}
use Rattle.text.proofs.Prelude.{arith}
use Rattle.std.proofs.lemmas.Grind.{common_steps}
use Rattle.finer.specs.Finer.{is_undefined_of}
use Rattle.finer.proofs.is_undefined.Goals as goal

pub returns : goal.returns
unfolding is_undefined_of ◌=?◌
returns c = grind (arith, common_steps)
