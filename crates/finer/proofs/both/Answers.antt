use Rattle.text.specs.Prelude.{◌≡◌, no}
use Rattle.text.proofs.Prelude.{rules, sym, came, ◌∙◌}
use Rattle.finer.specs.Finer.{both}
use Rattle.finer.proofs.both.Goals as goal

pub returns-in_err-lat : goal.returns-in_err-lat
unfolding both
returns-in_err-lat c =
    let left : c.from_residual.result ≡ no c.in_err-lat.field-0.0 = search rules in
    left ∙ rw (sym (came c.in_err-lat.was c.finer.ensures))

pub returns-in_err-lon : goal.returns-in_err-lon
unfolding both
returns-in_err-lon c =
    let left : c.from_residual-in_err-lon.result ≡ no c.in_err-lon.field-0.0 = search rules in
    left ∙ rw (sym (came c.in_ok-lat.was c.finer.ensures), sym (came c.in_err-lon.was c.finer-2.ensures))

pub returns : goal.returns
unfolding both
returns c = rw (sym (came c.in_ok-lat.was c.finer.ensures), sym (came c.in_ok-lon.was c.finer-2.ensures))
