use Rattle.text.specs.Prelude.{None, ◌≤◌, ◌≡◌, length, get_or}
use Rattle.text.proofs.Prelude.{rules, arith, sym, ap, ◌∙◌}
use lib.ListN.{get_or-eq_default}
use Rattle.table.proofs.Defs.{long_under}
use Rattle.hours.specs.Hours.{held, held_for}
use Rattle.hours.specs.declared.{Hour.Hour, Index.Index}
use Rattle.bench_loops.specs.Moments.{of_first_of, index_place}
use Rattle.bench_loops.proofs.moments.timed_index.Goals as goal

-- past 24 nothing is held
pub returns : goal.returns
unfolding index_place held_for held of_first_of
returns c =
    let h = c.args.hours in
    let hours = c.index_of-index.result.hours in
    let n : length hours ≡ 25 = search (rules, long_under) in
    let past : length hours ≤ h = omega arith in
    let nothing : get_or hours h (record { first = None }) ≡ record { first = None } =
    get_or-eq_default hours _ past in
    ap (λ (x : Hour). of_first_of x.first) (sym nothing)
    ∙ ap (λ (i : Index). of_first_of (held_for i h)) c.index_of-index.ensures
