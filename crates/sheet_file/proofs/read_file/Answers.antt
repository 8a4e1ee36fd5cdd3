use Rattle.std.specs.Prelude.{is_none, option_map}
use Rattle.text.proofs.Prelude.{rules, ap}
use Rattle.files.proofs.Filling.{ended_inside}
use Rattle.sheet_file.specs.File.{answer_in, turn_in}
use Rattle.sheet_file.proofs.Going.{Goes, at_start, goes_turned}
use Rattle.sheet_file.proofs.read_file.Goals as goal
use Rattle.sheet_file.proofs.read_file.Goals.{After-one_turn-t}

-- one turn more
turned : (c : After-one_turn-t) → Goes (turn_in c.one_turn-t.result)
turned c =
    rw c.one_turn-t.ensures.result_value
    (goes_turned c.loop.invariant c.read_on-filled.result c.read_on-filled.new.buf)

pub loop-init : goal.loop-init
loop-init c = at_start

pub one_turn-t-requires : goal.one_turn-t-requires
one_turn-t-requires c = ended_inside c.read_on-filled.result c.read_on-filled.ensures

pub returns-in-Some : goal.returns-in-Some
returns-in-Some c =
    rw c.in-Some.is at (turned (search rules)).told

pub loop-preserved : goal.loop-preserved
loop-preserved c = (turned (search rules)).gone (ap (λ a. is_none (option_map answer_in a)) c.in_default.is)
