use Rattle.text.specs.Prelude.{◌+◌, ◌≡◌, drop}
use Rattle.igc_log.specs.Line.{up_to}
use Rattle.igc_log.proofs.lf_tail.Given as goal

-- the LF from here on is the LF from `at` on
abbrev pub invariant-loop-i : goal.invariant-loop-i
invariant-loop-i l = l.i + up_to (drop l.i l.log) ≡ l.at + up_to (drop l.at l.log)
