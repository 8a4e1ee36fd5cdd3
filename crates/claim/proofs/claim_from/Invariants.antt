use Rattle.text.specs.Prelude.{◌-◌, length}
use Rattle.walk.proofs.Turns.{Made}
use Rattle.claim.specs.Step.{claim_step}
use Rattle.claim.proofs.claim_from.Given as goal

-- the lines before the place were taken
abbrev pub invariant-loop-at : goal.invariant-loop-at
invariant-loop-at l = Made claim_step l.fn.before l.piece l.at l.sofar

abbrev pub decreases-loop-at : goal.decreases-loop-at
decreases-loop-at l = length l.piece - l.at
