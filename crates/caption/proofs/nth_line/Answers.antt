use Rattle.text.specs.Prelude.{◌+◌, ◌-◌, ◌≡◌}
use Rattle.text.proofs.Prelude.{rules, arith, sym, ◌∙◌}
use Rattle.caption.specs.Caption.{nowhere, nth}
use Rattle.caption.proofs.Lines.{nth_past, nth_here, nth_next, here_inside}
use Rattle.caption.proofs.nth_line.Goals as goal

pub returns-then-k-n : goal.returns-then-k-n
returns-then-k-n c =
    let ahead = c.cut_ahead-cut.ensures in
    let last : c.args.n + 1 - c.loop-k.k ≡ 1 = omega arith in
    (nth_here ahead (search rules) ∙ (rw last at c.loop-k.invariant), here_inside ahead (search rules))

pub loop-k-preserved : goal.loop-k-preserved
loop-k-preserved c =
    let left = c.args.n + 1 - c.loop-k.k in
    let one_less : left - 1 ≡ c.args.n + 1 - (c.loop-k.k + 1) = omega arith in
    (rw one_less at (sym (nth_next c.cut_ahead-cut.ensures (search rules) left (omega arith)))) ∙ c.loop-k.invariant

pub returns : goal.returns
unfolding nowhere nth
returns c =
    let none : c.args.n + 1 - c.loop-k.k ≡ 0 = omega arith in
    (rw none at c.loop-k.invariant, omega arith)

pub returns-then-text-at : goal.returns-then-text-at
unfolding nowhere
returns-then-text-at c = (sym (nth_past _ c.loop-k.at _ c.if-text-at.true) ∙ c.loop-k.invariant, omega arith)
