use Rattle.std.specs.Prelude.{is_none}
use Rattle.text.proofs.Prelude.{rules, ap}
use Rattle.files.proofs.Filling.{ended_inside}
use Rattle.reported.specs.Reported.{nothing_yet, so_far_in}
use Rattle.sheets.specs.Sheets.{Onward, Goes}
use Rattle.sheets.proofs.Going.{at_start, goes_last, goes_turned}
use Rattle.sheets.proofs.report_file.Goals as goal
use Rattle.sheets.proofs.report_file.Goals.{After-one_turn-t}

-- one turn more
turned : (c : After-one_turn-t) →
    Goes nothing_yet (so_far_in c.one_turn-t.result.sofar) (is_none c.one_turn-t.result.ended)
turned c =
    let e = c.one_turn-t.ensures.result_value in
    rw (ap (λ (t : Onward). t.sofar) e, ap (λ (t : Onward). is_none t.ended) e)
    (goes_turned c.loop.invariant c.read_on-filled.result c.read_on-filled.new.buf)

pub loop-init : goal.loop-init
loop-init c = rw c.new-sofar.ensures at_start

pub one_turn-t-requires : goal.one_turn-t-requires
one_turn-t-requires c = ended_inside c.read_on-filled.result c.read_on-filled.ensures

pub returns-in-Some : goal.returns-in-Some
returns-in-Some c = goes_last (turned (search rules))

pub loop-preserved : goal.loop-preserved
loop-preserved c =
    let none = ap is_none c.in_default.is in
    rw none at (turned (search rules))

pub returns : goal.returns
returns c = goes_last c.loop.invariant
