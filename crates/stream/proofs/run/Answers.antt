use Rattle.files.proofs.Filling.{ended_inside}
use Rattle.stream.proofs.Streaming.{goes_nowhere, goes_last_of, goes_more, goes_on, goes_turned}
use Rattle.stream.proofs.run.Goals as goal

pub loop-init : goal.loop-init
loop-init c = rw c.new-carried.ensures goes_nowhere

pub one_turn-t-requires : goal.one_turn-t-requires
one_turn-t-requires c = ended_inside c.read_on-filled.result c.read_on-filled.ensures

pub returns-in-Some : goal.returns-in-Some
returns-in-Some c =
    let t = c.one_turn-t in
    let f = c.read_on-filled in
    goes_last_of (goes_on c.loop.invariant (goes_turned f.result c.loop.carried f.new.buf t.new.win t.result t.ensures))

pub loop-preserved : goal.loop-preserved
loop-preserved c =
    let t = c.one_turn-t in
    let f = c.read_on-filled in
    goes_more c.in_default.is
    (goes_on c.loop.invariant (goes_turned f.result c.loop.carried f.new.buf t.new.win t.result t.ensures))

pub returns : goal.returns
returns c = goes_last_of c.loop.invariant
