use Rattle.std.proofs.Common.{rules, ◌≡◌, length}
use Rattle.text.specs.Prelude.{◌=?◌}
use Rattle.text.specs.Spelt.{spelt_from, spelt}
use Rattle.text.proofs.Prelude.{arith, sym, ◌∙◌, fails, holds}
use Rattle.sheet_read.proofs.Lines.{rest_of, all_here, not_here, none_here}
use Rattle.sheet_read.proofs.find_all.Goals as goal
use Rattle.sheet_read.proofs.find_all.Goals.{then-start+else-starts_with, else-start}

pub returns-then-starts_with-clause-text_value : goal.returns-then-starts_with-clause-text_value
unfolding spelt spelt_from
returns-then-starts_with-clause-text_value c =
    all_here _ c.loop-i.i c.loop-i.start (search rules) c.loop-i.invariant c.if-start.true
    (sym (rw (rest_of _ c.loop-i.i) at c.starts_with.ensures) ∙ c.if-starts_with.true)

pub loop-i-preserved : goal.loop-i-preserved
unfolding spelt spelt_from ◌=?◌
loop-i-preserved c =
    not_here _ c.loop-i.i c.loop-i.start (search rules) c.loop-i.invariant
    (elim c.if-start.branch [
      | then-start+else-starts_with w ↦
          holds w.if-start.true (sym (rw (rest_of _ c.loop-i.i) at w.starts_with.ensures) ∙ w.if-starts_with.false)
      | else-start w ↦ fails _ w.if-start.false
    ])

pub returns-clause-text_value : goal.returns-clause-text_value
returns-clause-text_value c =
    let end : c.loop-i.i ≡ length c.args.text.now = omega arith in
    rw end at (none_here _ c.loop-i.i c.loop-i.start (search rules) c.loop-i.invariant)
