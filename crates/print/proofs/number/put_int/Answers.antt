use Rattle.text.specs.Prelude.{◌≡◌, ℤ}
use Rattle.text.proofs.Prelude.{sym, ap, ◌∙◌}
use mir.Syntax.{w64}
use mir.Val.{SFits, to_z, of_z}
use mir.Facts.{to_z-of_z}
use Rattle.print.specs.declared.number.Signed.{Signed}
use Rattle.print.specs.Signed.{split_of}
use Rattle.put.proofs.Writing.{then}
use Rattle.print.proofs.Numbers.{plus_text, minus_text}
use Rattle.print.proofs.number.put_int.Goals as goal

-- the arm that was taken is that of z
arm : {z : ℤ} {r s : Signed} → SFits w64 z → r ≡ s → r ≡ split_of (to_z w64 (of_z w64 z)) → s ≡ split_of z
arm f is e = sym is ∙ e ∙ ap split_of (to_z-of_z f)

pub returns-in-Plus : goal.returns-in-Plus
returns-in-Plus c = rw (plus_text _ _ c.args.z (arm c.ranges.z c.in-Plus.is c.split.ensures)) at c.put_nat.ensures

pub returns-in-Minus : goal.returns-in-Minus
returns-in-Minus c =
    rw (c.saturating_sub.ensures, minus_text _ _ c.args.z (arm c.ranges.z c.in-Minus.is c.split.ensures))
    at (then c.put_byte-next.ensures c.put_nat-in-Minus.ensures)
