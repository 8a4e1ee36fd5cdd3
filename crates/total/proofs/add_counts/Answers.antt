use Rattle.std.proofs.Common.{rules, ◌≡◌, length}
use Rattle.text.proofs.Prelude.{arith, refl}
use Rattle.total.proofs.Fitting.{all_fit_lem}
use Rattle.total.proofs.Adding.{over_here, sum_here, sums_made}
use Rattle.total.proofs.add_counts.Goals as goal

pub loop-i-init : goal.loop-i-init
loop-i-init c = record { wide = refl; done = refl; fit = all_fit_lem _ (λ i. search rules) }

pub returns-then-counts-i : goal.returns-then-counts-i
returns-then-counts-i c = over_here _ _ c.loop-i.i (omega arith)

pub loop-i-preserved : goal.loop-i-preserved
loop-i-preserved c =
    let ns : length c.args.counts ≡ 13 = search rules in
    let same : length c.args.counts ≡ length c.args.more = search rules in
    sum_here _ _ c.loop-i.i _ same c.loop-i.invariant (omega (arith, ns)) (omega arith)

pub returns : goal.returns
returns c =
    let ns : length c.args.counts ≡ 13 = search rules in
    let same : length c.args.counts ≡ length c.args.more = search rules in
    sums_made _ _ c.loop-i.i _ same c.loop-i.invariant (omega (arith, ns))
