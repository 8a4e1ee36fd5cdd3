use Rattle.text.specs.Prelude.{◌<◌}
use Rattle.text.proofs.Prelude.{arith, sym, ap, ◌∙◌}
use Rattle.moment_fix.specs.Fix.{hour_of_lem}
use Rattle.hours.proofs.ByHour.{lacks_inside}
use Rattle.moment.proofs.Hours.{indexed_start, indexed_end, indexed_new, indexed_old, nearer}
use Rattle.moment.proofs.index_of.Goals as goal

pub loop-place-init : goal.loop-place-init
loop-place-init c = indexed_start c.new-index.ensures

-- it is stored in the index
pub bounds-index-hour : goal.bounds-index-hour
bounds-index-hour c = lacks_inside _ _ (sym c.lacks.ensures ∙ c.if-lacks.true)

pub offset_bounds-index-hour : goal.offset_bounds-index-hour
offset_bounds-index-hour c =
    let inside : c.hour_of-hour.result < 25 = lacks_inside _ _ (sym c.lacks.ensures ∙ c.if-lacks.true) in
    omega arith

pub loop-place-smaller-then-lacks : goal.loop-place-smaller-then-lacks
loop-place-smaller-then-lacks c = nearer c.loop-place.invariant c.loop-place-test.true c.read_at-got.ensures

pub loop-place-smaller : goal.loop-place-smaller
loop-place-smaller c = nearer c.loop-place.invariant c.loop-place-test.true c.read_at-got.ensures

pub loop-place-preserved-then-lacks : goal.loop-place-preserved-then-lacks
loop-place-preserved-then-lacks c =
    let hour = c.hour_of-hour.ensures ∙ ap hour_of_lem c.fix_in.ensures in
    indexed_new c.loop-place.invariant c.loop-place-test.true c.read_at-got.ensures hour
    (sym c.lacks.ensures ∙ c.if-lacks.true)

pub loop-place-preserved : goal.loop-place-preserved
loop-place-preserved c =
    let hour = c.hour_of-hour.ensures ∙ ap hour_of_lem c.fix_in.ensures in
    indexed_old c.loop-place.invariant c.loop-place-test.true c.read_at-got.ensures hour
    (sym c.lacks.ensures ∙ c.if-lacks.false)

pub returns : goal.returns
returns c = indexed_end c.loop-place.invariant c.loop-place-test.false
