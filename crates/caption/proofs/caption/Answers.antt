use Rattle.text.proofs.Prelude.{arith}
use Rattle.caption.proofs.Lines.{inside_shown}
use Rattle.caption.proofs.Names.{named, labelled}
use Rattle.caption.proofs.caption.Goals as goal

pub returns-then-name-gt0 : goal.returns-then-name-gt0
returns-then-name-gt0 c = named _ _ _ c.turnpoint_name-name.ensures c.if-name-gt0.true

pub returns : goal.returns
returns c =
    let label = c.nth_line-label.ensures in
    labelled _ _ _ c.turnpoint_name-name.ensures _ (omega arith) (rw (inside_shown _ _ label.1, label.0) at c.view.ensures)
