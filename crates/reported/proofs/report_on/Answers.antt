use Rattle.text.proofs.Prelude.{arith, refl, first, second, yes≤, no≤}
use Rattle.reported.specs.Reported.{report_on_of}
use Rattle.reported.proofs.report_on.Goals as goal

pub returns-then-place-length : goal.returns-then-place-length
unfolding report_on_of
returns-then-place-length c = second _ (no≤ (omega arith)) refl

pub returns : goal.returns
unfolding report_on_of
returns c = first _ (yes≤ (omega arith)) (rw c.report_from.ensures)
