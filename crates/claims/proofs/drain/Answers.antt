use Rattle.std.specs.Prelude.{is_none}
use Rattle.text.specs.Prelude.{◌≤◌, length}
use Rattle.text.proofs.Prelude.{rules, ap, second, so_true, so_false}
use native.Mathlib.Nat.{sub-zero}
use Rattle.claims.specs.Claims.{stopped, take_front, full_turn, window_after}
use Rattle.claims.specs.declared.Turn.{Turn}
use Rattle.claims.proofs.Going.{unmoved, leaving_inside, front_taken}
use Rattle.claims.proofs.drain.Goals as goal
use Rattle.claims.proofs.drain.Goals.{After-leaving-n}

-- what leaves is inside
inside : (c : After-leaving-n) → c.leaving-n.result ≤ length c.args.win.now
inside c = rw c.leaving-n.ensures (leaving_inside _)

pub slice_bounds-has_room-end : goal.slice_bounds-has_room-end
slice_bounds-has_room-end c = let h = inside (search rules) in search rules

pub returns-then-not-has_room : goal.returns-then-not-has_room
unfolding full_turn take_front stopped
returns-then-not-has_room c =
    let room = rw sub-zero at c.has_room.ensures in
    let made = second _ (so_false room c.if-not-has_room.true) c.stop.ensures in
    record {
      value = rw (← c.leaving-n.ensures) made;
      win_after = unmoved _ _ (ap (λ (t : Turn). is_none t.ended) c.stop.ensures);
    }

pub slice_bounds-claim_on-end : goal.slice_bounds-claim_on-end
slice_bounds-claim_on-end c = let h = inside (search rules) in search rules

pub returns : goal.returns
unfolding full_turn window_after
returns c =
    let room = rw sub-zero at c.has_room.ensures in
    let taken = rw sub-zero at c.claim_on-taken.ensures in
    record {
      value = rw (← c.leaving-n.ensures)
          (front_taken _ _ _ (so_true room c.if-not-has_room.false) taken c.keep_rest-fill.ensures.value);
      win_after = rw (← c.leaving-n.ensures) c.keep_rest-fill.ensures.win_after;
    }
