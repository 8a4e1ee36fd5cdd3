use Rattle.text.proofs.Prelude.{◌∙◌}
use Rattle.window.proofs.Moves.{front_pasted}
use Rattle.window.proofs.keep_rest.Goals as goal

pub returns-clause-win_after : goal.returns-clause-win_after
returns-clause-win_after c = c.copy_within.ensures.after ∙ front_pasted _ _ c.if-win-from.false
