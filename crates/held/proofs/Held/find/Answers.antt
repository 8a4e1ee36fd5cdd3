use Rattle.text.specs.Prelude.{◌≡◌, no}
use Rattle.text.proofs.Prelude.{rules, came, on, off, ◌∙◌}
use Rattle.held.specs.Held.{look_up}
use Rattle.held.proofs.Held.find.Goals as goal

pub returns-in_err-define : goal.returns-in_err-define
unfolding look_up
returns-in_err-define c =
    let left : c.from_residual.result ≡ no c.in_err-define.field-0.0 = search rules in
    left ∙ off _ (came c.in_err-define.was c.define.ensures)

pub returns : goal.returns
unfolding look_up
returns c = on _ (came c.in_ok-define.was c.define.ensures) c.find.ensures
