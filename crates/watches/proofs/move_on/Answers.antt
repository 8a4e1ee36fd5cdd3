use Rattle.std.specs.Prelude.{is_some}
use Rattle.text.specs.Prelude.{◌≤◌, length, take}
use Rattle.text.proofs.Prelude.{rules, arith, refl, sym, ap, ◌∙◌, length-take-le, never}
use native.Mathlib.Nat.{sub-zero}
use Rattle.window.specs.Piece.{piece_end_of}
use Rattle.window.proofs.Wholes.{whole_le}
use Rattle.watches.specs.Watching.{stopped}
use Rattle.watches.proofs.Watching.{goes_last, moved}
use Rattle.watches.proofs.move_on.Goals as goal
use Rattle.watches.proofs.move_on.Goals.{After-piece_end-whole}

-- the whole lines are inside the window
inside : (c : After-piece_end-whole) → c.piece_end-whole.result ≤ length c.args.win.now
unfolding piece_end_of
inside c =
    let end = rw sub-zero at c.piece_end-whole.ensures in
    let n = c.args.n in
    let win = c.args.win.now in
    omega (arith, end, whole_le (take n win), length-take-le n win c.requires, c.requires)

pub slice_bounds-write_lines-end : goal.slice_bounds-write_lines-end
slice_bounds-write_lines-end c = let h = inside (search rules) in search rules

pub returns-then-is_err : goal.returns-then-is_err
unfolding stopped
returns-then-is_err c = rw c.stop.ensures (goes_last c.write_lines-went.ensures, λ h. never refl (ap is_some h))

pub returns : goal.returns
returns c =
    let well = sym c.is_err.ensures.value ∙ c.if-is_err.false in
    moved c.requires (rw sub-zero at c.piece_end-whole.ensures) (rw sub-zero at c.write_lines-went.ensures) well
    (rw sub-zero at c.keep_rest-fill.ensures.value) (rw (sub-zero, rw sub-zero at c.keep_rest-fill.ensures.win_after))
