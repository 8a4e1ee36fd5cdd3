use Rattle.std.specs.Prelude.{is_none}
use Rattle.text.proofs.Prelude.{rules}
use Rattle.files.proofs.Filling.{came_inside}
use Rattle.watch_text.specs.Feed.{view, at_first_of}
use Rattle.watches.specs.Watching.{Goes}
use Rattle.watches.proofs.Watching.{goes_nowhere, goes_last_of, goes_more, goes_on, goes_turned}
use Rattle.watches.proofs.run.Goals as goal
use Rattle.watches.proofs.run.Goals.{After-one_turn-t}

-- one turn more
turned : (c : After-one_turn-t) → Goes at_first_of (view c.one_turn-t.result.watch) (is_none c.one_turn-t.result.ended)
turned c =
    goes_on c.loop.invariant
    (goes_turned c.read_more-came.result c.loop.watch c.read_more-came.new.buf c.loop.fill
    c.one_turn-t.new.win c.one_turn-t.result c.one_turn-t.ensures)

pub loop-init : goal.loop-init
loop-init c = rw c.new-watch.ensures goes_nowhere

pub one_turn-t-requires : goal.one_turn-t-requires
one_turn-t-requires c = came_inside c.read_more-came.result c.read_more-came.ensures

pub returns-in-Some : goal.returns-in-Some
returns-in-Some c = goes_last_of (turned (search rules))

pub loop-preserved : goal.loop-preserved
loop-preserved c = goes_more c.in_default.is (turned (search rules))

pub returns : goal.returns
returns c = goes_last_of c.loop.invariant
