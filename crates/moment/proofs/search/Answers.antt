use Rattle.text.proofs.Prelude.{sym, ap, ◌∙◌}
use Rattle.moment_fix.specs.Fix.{with_time_of}
use Rattle.moment.specs.Moment.{found}
use Rattle.moment.proofs.Searching.{left_all, left_none, left_found, left_next, nearer}
use Rattle.moment.proofs.search.Goals as goal

pub loop-place-init : goal.loop-place-init
loop-place-init c = left_all

pub returns-in-Some : goal.returns-in-Some
unfolding found
returns-in-Some c =
    ap found (left_found c.loop-place.invariant c.loop-place-test.true c.read_at-got.ensures
    (sym c.in-Some.is ∙ c.with_time.ensures ∙ ap (with_time_of _) c.fix_in.ensures))

pub loop-place-smaller : goal.loop-place-smaller
loop-place-smaller c = nearer c.loop-place.invariant c.loop-place-test.true c.read_at-got.ensures

pub loop-place-preserved : goal.loop-place-preserved
loop-place-preserved c =
    left_next c.loop-place.invariant c.loop-place-test.true c.read_at-got.ensures
    (sym c.in_default.is ∙ c.with_time.ensures ∙ ap (with_time_of _) c.fix_in.ensures)

pub returns : goal.returns
unfolding found
returns c = ap found (left_none c.loop-place.invariant c.loop-place-test.false)
