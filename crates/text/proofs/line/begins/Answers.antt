use Rattle.text.specs.Prelude.{◌=?◌, begins}
use Rattle.text.proofs.Prelude.{arith, refl, sym, yes≤, no≤, holds, fails}
use Rattle.text.proofs.line.begins.Goals as goal

pub returns-then-line-eq0 : goal.returns-then-line-eq0
unfolding begins
returns-then-line-eq0 c = sym (fails _ (no≤ (omega arith)))

pub returns : goal.returns
unfolding begins ◌=?◌
returns c = sym (holds (yes≤ (omega arith)) refl)
