use Rattle.text.proofs.Prelude.{sym, ap, ◌∙◌, first, second}
use Rattle.claim.specs.Step.{is_yes, failed, judged}
use Rattle.claim.proofs.Sofar.after.Goals as goal

pub returns-then-is_yes : goal.returns-then-is_yes
unfolding judged
returns-then-is_yes c =
    first _ (ap is_yes (sym c.line_verdict-verdict.ensures) ∙ sym c.is_yes.ensures ∙ c.if-is_yes.true) c.pass.ensures

pub returns : goal.returns
unfolding judged failed
returns c =
    second _ (ap is_yes (sym c.line_verdict-verdict.ensures) ∙ sym c.is_yes.ensures ∙ c.if-is_yes.false)
    (rw c.line_verdict-verdict.ensures)
