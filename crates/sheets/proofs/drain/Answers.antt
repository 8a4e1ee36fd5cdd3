use Rattle.std.specs.Prelude.{is_none}
use Rattle.text.specs.Prelude.{◌≤◌, length}
use Rattle.text.proofs.Prelude.{rules, sym, ap, ◌∙◌, first, second, yes=, so_true, so_false}
use native.Mathlib.Nat.{sub-zero}
use Rattle.window.specs.Piece.{piece_end_of}
use Rattle.window.proofs.Wholes.{whole_le}
use Rattle.sheets.specs.Sheets.{Onward, stopped, take_whole, full_turn, window_after}
use Rattle.sheets.proofs.Going.{unmoved, whole_lines}
use Rattle.sheets.proofs.drain.Goals as goal
use Rattle.sheets.proofs.drain.Goals.{After-piece_end-whole}

-- the whole lines are inside
inside : (c : After-piece_end-whole) → c.piece_end-whole.result ≤ length c.args.win.now
unfolding piece_end_of
inside c = rw c.piece_end-whole.ensures (whole_le _)

pub returns-then-whole-eq0-clause-result_value : goal.returns-then-whole-eq0-clause-result_value
unfolding full_turn stopped
returns-then-whole-eq0-clause-result_value c =
    first _ (yes= (sym c.piece_end-whole.ensures ∙ c.if-whole-eq0.true)) c.stop.ensures

pub returns-then-whole-eq0-clause-win_after : goal.returns-then-whole-eq0-clause-win_after
unfolding stopped
returns-then-whole-eq0-clause-win_after c = unmoved _ _ (ap (λ (t : Onward). is_none t.ended) c.stop.ensures)

pub slice_bounds-has_room-end : goal.slice_bounds-has_room-end
slice_bounds-has_room-end c = let h = inside (search rules) in search rules

pub returns-then-not-has_room-clause-result_value : goal.returns-then-not-has_room-clause-result_value
unfolding take_whole
returns-then-not-has_room-clause-result_value c =
    let room = rw sub-zero at c.has_room.ensures in
    whole_lines _ _ c.piece_end-whole.ensures c.if-whole-eq0.false
    (second _ (so_false room c.if-not-has_room.true) c.stop-then-not-has_room.ensures)

pub returns-then-not-has_room-clause-win_after : goal.returns-then-not-has_room-clause-win_after
unfolding stopped
returns-then-not-has_room-clause-win_after c =
    unmoved _ _ (ap (λ (t : Onward). is_none t.ended) c.stop-then-not-has_room.ensures)

pub returns-clause-result_value : goal.returns-clause-result_value
unfolding take_whole
returns-clause-result_value c =
    let room = rw sub-zero at c.has_room.ensures in
    let taken = rw sub-zero at c.report_on-taken.ensures in
    whole_lines _ _ c.piece_end-whole.ensures c.if-whole-eq0.false
    (first _ (so_true room c.if-not-has_room.false) (rw (taken, c.keep_rest-fill.ensures.value)))

pub returns-clause-win_after : goal.returns-clause-win_after
unfolding window_after
returns-clause-win_after c = rw (← c.piece_end-whole.ensures) c.keep_rest-fill.ensures.win_after
