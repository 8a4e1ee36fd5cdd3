use Rattle.text.proofs.Prelude.{so_true, so_false}
use Rattle.held.proofs.Letters.{i_line, j_line, other_line}
use Rattle.held.proofs.tables.Tables.after.Goals as goal

pub returns-then-begins : goal.returns-then-begins
returns-then-begins c = i_line _ _ (so_true c.begins.ensures c.if-begins.true) c.set_by.ensures

pub returns-then-begins-2 : goal.returns-then-begins-2
returns-then-begins-2 c =
    j_line _ _ (so_false c.begins.ensures c.if-begins.false) (so_true c.begins-2.ensures c.if-begins-2.true)
    c.set_by-then-begins-2.ensures

pub returns : goal.returns
returns c =
    other_line _ _ (so_false c.begins.ensures c.if-begins.false) (so_false c.begins-2.ensures c.if-begins-2.false)
