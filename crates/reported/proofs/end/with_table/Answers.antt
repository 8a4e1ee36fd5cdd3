use Rattle.text.proofs.Prelude.{◌∙◌, so_true, so_false}
use Rattle.held.proofs.Letters.{i_line, j_line}
use Rattle.reported.proofs.Setting.{is_j, table_kept}
use Rattle.reported.proofs.end.with_table.Goals as goal

pub returns-then-begins : goal.returns-then-begins
returns-then-begins c =
    i_line _ _ (so_true c.begins.ensures c.if-begins.true) (c.left_of-set.ensures ∙ table_kept _ c.requires.1)

pub returns : goal.returns
returns c =
    let no-i = so_false c.begins.ensures c.if-begins.false in
    j_line _ _ no-i (is_j _ c.requires.0 no-i) (c.left_of-set.ensures ∙ table_kept _ c.requires.1)
