-- A count is negsuc k below 0 and pos n else.
use Rattle.text.specs.Prelude.{◌+◌, ◌≡◌, true, false, ℤ, pos, negsuc, ok, no}
use native.Mathlib.Omega.{arith}
use mathlib.Core.Path.{refl, subst}
use lib.IntN.{nat_abs}
use lib.Signed.{lt_z}
use lib.Dec.{T}
use mir.Facts.{to_z-of_z}
use borrow.Author.Tests.{ltb-true}
use Rattle.task.specs.Sheet.{size_of}
use Rattle.task.specs.declared.TaskRefusal.{TaskRefusal}
use Rattle.task.proofs.points.size_of.Goals as goal

below : (z : ℤ) → lt_z z (pos 0) ≡ true → no TaskRefusal.NegativeCount ≡ size_of z
unfolding size_of
below (pos n) t = absurd (omega (arith, ltb-true n 0 t))
below (negsuc k) t = refl

not_below : (z : ℤ) → lt_z z (pos 0) ≡ false → ok (nat_abs z + 4) ≡ size_of z
unfolding size_of
not_below (pos n) t = refl
not_below (negsuc k) t = absurd (subst T t tt)

pub returns-then-count-lt0 : goal.returns-then-count-lt0
returns-then-count-lt0 c = below _ (rw (to_z-of_z c.ranges.count) at c.if-count-lt0.true)

pub returns : goal.returns
returns c = rw (to_z-of_z c.ranges.count) (not_below _ (rw (to_z-of_z c.ranges.count) at c.if-count-lt0.false))
