use Rattle.text.specs.Prelude.{◌≡◌, drop, ◌∨?◌}
use Rattle.igc_log.specs.Line.{has_lf_of}
use Rattle.igc_log.proofs.has_lf.Given as goal

-- the bytes so far and those from here on tell of all
abbrev pub invariant-loop-b : goal.invariant-loop-b
invariant-loop-b l = (l.any ∨? has_lf_of (drop l.b-index l.block)) ≡ has_lf_of l.block
