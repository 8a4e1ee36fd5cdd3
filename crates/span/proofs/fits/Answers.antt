use Rattle.text.proofs.Prelude.{arith, sym, yes≤, no≤, holds, fails}
use Rattle.span.specs.Span.{all_fit, mapped, numbers_of}
use Rattle.span.proofs.Fitting.{last_fits}
use Rattle.span.proofs.fits.Goals as goal

pub returns-then-before-spots : goal.returns-then-before-spots
unfolding mapped all_fit numbers_of
returns-then-before-spots g c = rw c.in-Some.is (sym (fails _ (no≤ (omega arith))))

pub returns-in-None : goal.returns-in-None
unfolding mapped all_fit numbers_of
returns-in-None g c = rw c.in-None.is

pub returns-else-before-spots : goal.returns-else-before-spots
unfolding mapped all_fit numbers_of
returns-else-before-spots g c = rw c.in-Some.is (sym (holds (yes≤ (omega arith)) (sym (last_fits _ _ (omega arith)))))
