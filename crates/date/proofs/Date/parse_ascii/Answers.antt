use Rattle.text.specs.Prelude.{◌≡◌, no}
use Rattle.text.proofs.Prelude.{rules, ◌∙◌, came, on, off}
use Rattle.date.specs.Date.{date_of, date_in}
use Rattle.three.proofs.Threes.{made_by, three_then}
use Rattle.date.proofs.Date.parse_ascii.Goals as goal

pub returns-in_err-day : goal.returns-in_err-day
unfolding date_in
returns-in_err-day c =
    let left : c.from_residual.result ≡ no c.in_err-day.field-0.0 = search rules in
    left ∙ off (made_by date_of) (came c.in_err-day.was c.read_three.ensures) ∙ three_then date_of _

pub returns : goal.returns
unfolding date_in
returns c = on (made_by date_of) (came c.in_ok-day.was c.read_three.ensures) c.within.ensures ∙ three_then date_of _
