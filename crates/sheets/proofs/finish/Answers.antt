use Rattle.std.specs.Prelude.{Ok}
use Rattle.text.proofs.Prelude.{ap, ◌∙◌, first, second, so_true, so_false}
use Rattle.reported.specs.Reported.{SoFar}
use Rattle.sheets.specs.Sheets.{stopped, last_turn}
use Rattle.sheets.proofs.finish.Goals as goal

pub returns-then-not-has_room : goal.returns-then-not-has_room
unfolding last_turn
returns-then-not-has_room c = second _ (so_false c.has_room.ensures c.if-not-has_room.true) c.stop.ensures

pub returns : goal.returns
unfolding last_turn
returns c =
    first _ (so_true c.has_room.ensures c.if-not-has_room.false)
    (c.stop-2.ensures ∙ ap (λ (k : SoFar). stopped k (Ok tt)) c.report_on-taken.ensures)
