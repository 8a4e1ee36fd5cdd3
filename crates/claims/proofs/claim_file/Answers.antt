use Rattle.std.specs.Prelude.{is_none}
use Rattle.text.specs.Prelude.{◌≡◌, true}
use Rattle.text.proofs.Prelude.{rules, arith, ap}
use Rattle.files.proofs.Filling.{ended_inside}
use Rattle.claims.specs.Claims.{Going, Judged}
use Rattle.claims.proofs.Going.{at_start, judged_now, goes_turned}
use Rattle.claims.proofs.claim_file.Goals as goal
use Rattle.claims.proofs.claim_file.Goals.{After-one_turn-t}

-- one turn more
turned : (c : After-one_turn-t) →
    Judged c.one_turn-t.result.sofar × (is_none c.one_turn-t.result.ended ≡ true → Going c.one_turn-t.result.sofar)
turned c =
    rw c.one_turn-t.ensures.value
    (goes_turned c.loop.invariant c.read_on-filled.result c.read_on-filled.new.buf
    (omega (arith, c.read_on-filled.auto.buf, c.loop.auto.win, c.requires)))

pub loop-init : goal.loop-init
loop-init c = rw c.new-sofar.ensures at_start

pub one_turn-t-requires : goal.one_turn-t-requires
one_turn-t-requires c = ended_inside c.read_on-filled.result c.read_on-filled.ensures

pub returns-in-Some : goal.returns-in-Some
returns-in-Some c = (turned (search rules)).0

pub loop-preserved : goal.loop-preserved
loop-preserved c = (turned (search rules)).1 (ap is_none c.in_default.is)

pub returns : goal.returns
returns c = judged_now c.loop.invariant
