use Rattle.text.proofs.Prelude.{sym, ◌∙◌}
use Rattle.held.proofs.Letters.{i_line, j_line, other_line}
use Rattle.walk.proofs.Laws.{step_done, step_full, step_line}
use Rattle.walk.proofs.Walk.step.Goals as goal
use Rattle.walk.proofs.Walk.step.Goals.{then-begins, else-begins+then-begins-2, else-begins+else-begins-2}

pub returns-then-is_full : goal.returns-then-is_full
returns-then-is_full c = step_full _ _ (sym c.is_full.ensures ∙ c.if-is_full.true)

pub returns-in_default : goal.returns-in_default
returns-in_default c = step_done _ _ (sym c.is_full.ensures ∙ c.if-is_full.false) (sym c.in_default.is ∙ c.next.ensures)

pub returns : goal.returns
returns c =
    let room = sym c.is_full.ensures ∙ c.if-is_full.false in
    let next = sym c.in-Some.is ∙ c.next.ensures in
    elim c.if-begins.branch [
      | then-begins w ↦
          rw w.held-is (step_line _ _ room next c.view-line.ensures.bytes c.parse_line-reading.ensures c.after.ensures
          (i_line _ _ (sym c.begins.ensures ∙ w.if-begins.true) w.set_by.ensures))
      | else-begins+then-begins-2 w ↦
          rw w.held-is (step_line _ _ room next c.view-line.ensures.bytes c.parse_line-reading.ensures c.after.ensures
          (j_line _ _ (sym c.begins.ensures ∙ w.if-begins.false) (sym w.begins-else-begins.ensures ∙ w.if-begins-2.true)
          w.set_by-then-begins-2.ensures))
      | else-begins+else-begins-2 w ↦
          rw w.held-is (step_line _ _ room next c.view-line.ensures.bytes c.parse_line-reading.ensures c.after.ensures
          (other_line _ _ (sym c.begins.ensures ∙ w.if-begins.false)
          (sym w.begins-else-begins.ensures ∙ w.if-begins-2.false)))
    ]
