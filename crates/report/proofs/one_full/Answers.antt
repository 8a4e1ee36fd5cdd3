use Rattle.text.specs.Prelude.{◌≤◌, length}
use Rattle.text.proofs.Prelude.{arith, sym, ◌∙◌, drop_of_length-le}
use Rattle.report.specs.Counts.{one_full_of}
use Rattle.report.proofs.Full.{full_here, full_later}
use Rattle.report.proofs.one_full.Goals as goal

pub returns-then-count : goal.returns-then-count
returns-then-count c = sym (full_here _ c.loop-count.count-index (omega arith) (omega arith)) ∙ c.loop-count.invariant

pub loop-count-preserved : goal.loop-count-preserved
loop-count-preserved c = full_later _ c.loop-count.count-index (omega arith) (omega (arith, c.type_inv.count-items)) ∙ c.loop-count.invariant

pub returns : goal.returns
unfolding one_full_of
returns c =
    let all : length c.args.answers ≤ c.loop-count.count-index = omega arith in
    rw (drop_of_length-le c.args.answers all) at c.loop-count.invariant
