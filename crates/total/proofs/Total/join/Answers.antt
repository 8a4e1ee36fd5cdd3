use Rattle.std.proofs.Common.{rules, ◌≡◌, true, List, ℕ}
use Rattle.text.specs.Prelude.{Option, None}
use Rattle.text.proofs.Prelude.{arith, ap, ◌∙◌, came, so_true, so_false}
use Rattle.report.specs.Range.{joined}
use Rattle.report.specs.Figures as figures
use Rattle.span.specs.Span.{lower_pressure, lower_gps}
use Rattle.span.proofs.Fitting.{shifted_fit}
use Rattle.total.specs.Total.{later_by, join_of, join_fits, total_in}
use Rattle.total.proofs.Adding.{sums_fit, sums_over, count_over, answers_over, pressure_over_lem, gps_over_lem, all_in}
use Rattle.total.proofs.Adding.{too_large, joins}
use Rattle.total.proofs.Total.join.Goals as goal

pub returns-then-self-other : goal.returns-then-self-other
unfolding join_of figures.both later_by
returns-then-self-other c = too_large _ _ (count_over _ _ 0 (omega arith))

pub returns-then-self-other-2 : goal.returns-then-self-other-2
unfolding join_of figures.both later_by
returns-then-self-other-2 c = too_large _ _ (count_over _ _ 1 (omega arith))

pub returns-then-self-other-3 : goal.returns-then-self-other-3
unfolding join_of figures.both later_by
returns-then-self-other-3 c = too_large _ _ (count_over _ _ 2 (omega arith))

pub returns-in_default : goal.returns-in_default
returns-in_default c =
    let over : ◌≡◌ {A = Option (List ℕ)} c.add_counts.result None = search rules in
    too_large _ _ (answers_over _ _ (sums_over _ _ (came over c.add_counts.ensures)))

pub returns-then-not-fits : goal.returns-then-not-fits
returns-then-not-fits c = too_large _ _ (pressure_over_lem _ _ (so_false c.fits.ensures c.if-not-fits.true))

pub returns-then-not-fits-2 : goal.returns-then-not-fits-2
returns-then-not-fits-2 c = too_large _ _ (gps_over_lem _ _ (so_false c.fits-2.ensures c.if-not-fits-2.true))

pub returns : goal.returns
unfolding joined lower_pressure lower_gps
returns c =
    let sums = sums_fit _ _ (came c.in-Some.is c.add_counts.ensures) in
    let pressure = so_true c.fits.ensures c.if-not-fits.false in
    let gps = so_true c.fits-2.ensures c.if-not-fits-2.false in
    let fit : join_fits (total_in c.args.self) (total_in c.args.other) ≡ true =
    all_in _ _ (omega arith) (omega arith) (omega arith) sums.0 pressure gps in
    joins _ _ fit sums.1
    (c.joined.ensures ∙ ap (joined lower_pressure _) (c.later.ensures ∙ shifted_fit _ _ _ pressure))
    (c.joined-2.ensures ∙ ap (joined lower_gps _) (c.later-2.ensures ∙ shifted_fit _ _ _ gps))
    c.joined-3.ensures
