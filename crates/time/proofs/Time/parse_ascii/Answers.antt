use Rattle.text.specs.Prelude.{◌≡◌, no}
use Rattle.text.proofs.Prelude.{rules, ◌∙◌, came, on, off}
use Rattle.time.specs.Time.{time_of, time_in}
use Rattle.three.proofs.Threes.{made_by, three_then}
use Rattle.time.proofs.Time.parse_ascii.Goals as goal

pub returns-in_err-hours : goal.returns-in_err-hours
unfolding time_in
returns-in_err-hours c =
    let left : c.from_residual.result ≡ no c.in_err-hours.field-0.0 = search rules in
    left ∙ off (made_by time_of) (came c.in_err-hours.was c.read_three.ensures) ∙ three_then time_of _

pub returns : goal.returns
unfolding time_in
returns c = on (made_by time_of) (came c.in_ok-hours.was c.read_three.ensures) c.from_hms.ensures ∙ three_then time_of _
