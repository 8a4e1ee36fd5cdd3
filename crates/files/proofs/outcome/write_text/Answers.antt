use Rattle.text.specs.Prelude.{pick, true, false}
use Rattle.text.proofs.Prelude.{◌∙◌}
use Rattle.files.proofs.outcome.write_text.Goals.{then-is_terminal, else-is_terminal}
use Rattle.files.proofs.outcome.write_text.Goals as goal

pub returns : goal.returns
unfolding pick
returns c = elim c.if-is_terminal.branch [
  | then-is_terminal w ↦ record { terminal = true; content = w.text-is ∙ w.make_visible.ensures }
  | else-is_terminal w ↦ record { terminal = false; content = w.text-is }
]
