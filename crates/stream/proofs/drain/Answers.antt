use Rattle.std.specs.Prelude.{is_some}
use Rattle.text.proofs.Prelude.{rules, refl, sym, ap, ◌∙◌, never}
use Rattle.window.specs.Piece.{piece_end_of}
use Rattle.window.proofs.Wholes.{whole_le}
use Rattle.stream.proofs.Streaming.{goes_nowhere, goes_last, drained}
use Rattle.stream.proofs.drain.Goals as goal

pub returns-then-whole-eq0 : goal.returns-then-whole-eq0
returns-then-whole-eq0 c = rw c.stop.ensures (goes_nowhere, λ h. never refl (ap is_some h))

pub slice_bounds-write_lines-end : goal.slice_bounds-write_lines-end
unfolding piece_end_of
slice_bounds-write_lines-end c =
    let h = whole_le c.args.win.now in
    let e = c.piece_end-whole.ensures in
    search rules

pub returns-then-is_err : goal.returns-then-is_err
returns-then-is_err c =
    rw c.stop-then-is_err.ensures (goes_last c.write_lines-went.ensures, λ h. never refl (ap is_some h))

pub returns : goal.returns
returns c =
    let end = c.piece_end-whole.ensures in
    let well = sym c.is_err.ensures.value ∙ c.if-is_err.false in
    drained end c.write_lines-went.ensures well c.keep_rest-fill.ensures.value c.keep_rest-fill.ensures.win_after
