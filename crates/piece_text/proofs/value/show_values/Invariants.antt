use Rattle.text.specs.Prelude.{take}
use Rattle.put.specs.Put.{Wrote}
use Rattle.igc_log.specs.Fold.{texts}
use Rattle.piece_text.specs.Value.{value_shown, asked_for}
use Rattle.piece_text.proofs.value.show_values.Given as goal

-- the values of the first i names are written
abbrev pub invariant-loop-i : goal.invariant-loop-i
invariant-loop-i l =
    Wrote l.initial.buf l.at (texts (value_shown l.base l.held l.rest l.line) (take l.i (asked_for l.held l.names)))
    l.buf l.end
