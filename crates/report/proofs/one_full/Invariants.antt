use Rattle.text.specs.Prelude.{◌≡◌, drop}
use Rattle.report.specs.Counts.{one_full_of}
use Rattle.report.proofs.one_full.Given as goal

-- none of the counts so far is
abbrev pub invariant-loop-count : goal.invariant-loop-count
invariant-loop-count l = one_full_of (drop l.count-index l.fn.answers) ≡ one_full_of l.fn.answers
