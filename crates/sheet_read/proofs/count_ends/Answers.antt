use Rattle.std.proofs.Common.{rules}
use Rattle.sheet_read.proofs.Lines.{end_here, no_end_here, ends_counted}
use Rattle.sheet_read.proofs.count_ends.Goals as goal
use Rattle.sheet_read.proofs.count_ends.Goals.{then-b-eq10, else-b-eq10}

pub loop-b-preserved : goal.loop-b-preserved
loop-b-preserved c =
    elim c.if-b-eq10.branch [
      | then-b-eq10 w ↦ (
        search rules,
        rw w.count-is (end_here _ _ c.loop-b.b-index (search rules) c.loop-b.invariant.1 w.if-b-eq10.true),
      )
      | else-b-eq10 w ↦ (
        search rules,
        rw w.count-is (no_end_here _ _ c.loop-b.b-index (search rules) c.loop-b.invariant.1 w.if-b-eq10.false),
      )
    ]

pub returns : goal.returns
returns c = ends_counted _ _ c.loop-b.b-index (search rules) c.loop-b.invariant.1
