use Rattle.text.proofs.Prelude.{arith, sym, ◌∙◌, first, second}
use mir.Syntax.{w64}
use mir.Facts.{to_z_pos, to_z-of_z}
use Rattle.text.proofs.Signs.{zero_minus, neg_fits}
use Rattle.finer.specs.Finer.{toward}
use Rattle.finer.proofs.toward.Goals as goal

pub returns-then-is_negative : goal.returns-then-is_negative
unfolding toward
returns-then-is_negative c =
    let m = c.args.m in
    first _ (sym c.is_negative.ensures ∙ c.if-is_negative.true)
    (rw (to_z_pos w64 {n = m} (omega arith), zero_minus) (to_z-of_z (neg_fits w64 m (omega arith))))

pub returns-else-is_negative : goal.returns-else-is_negative
unfolding toward
returns-else-is_negative c =
    second _ (sym c.is_negative.ensures ∙ c.if-is_negative.false) (to_z_pos w64 (omega arith))
