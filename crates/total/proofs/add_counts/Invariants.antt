use Rattle.total.proofs.Adding.{Made}
use Rattle.total.proofs.add_counts.Given as goal

-- the first i sums are made, and all counts fit
abbrev pub invariant-loop-i : goal.invariant-loop-i
invariant-loop-i l = Made l.counts l.more l.all l.i
