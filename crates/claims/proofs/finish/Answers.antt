use Rattle.std.specs.Prelude.{Ok}
use Rattle.text.proofs.Prelude.{ap, ◌∙◌, first, second, so_true, so_false}
use Rattle.claim.specs.declared.Sofar.{Sofar}
use Rattle.claims.specs.Claims.{stopped, last_turn}
use Rattle.claims.proofs.finish.Goals as goal

pub returns-then-not-has_room : goal.returns-then-not-has_room
unfolding last_turn
returns-then-not-has_room c = second _ (so_false c.has_room.ensures c.if-not-has_room.true) c.stop.ensures

pub returns : goal.returns
unfolding last_turn
returns c =
    first _ (so_true c.has_room.ensures c.if-not-has_room.false)
    (c.stop-2.ensures ∙ ap (λ (k : Sofar). stopped k (Ok tt)) c.claim_on-taken.ensures)
