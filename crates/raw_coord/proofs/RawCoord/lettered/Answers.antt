use Rattle.text.specs.Prelude.{◌≡◌, no}
use Rattle.text.proofs.Prelude.{rules, ◌∙◌, came, on, off}
use Rattle.raw_coord.specs.Coord.{lettered}
use Rattle.raw_coord.proofs.RawCoord.lettered.Goals as goal

pub returns-in_err-sign : goal.returns-in_err-sign
unfolding lettered
returns-in_err-sign c =
    let left : c.from_residual.result ≡ no c.in_err-sign.field-0.0 = search rules in
    left ∙ off _ (came c.in_err-sign.was c.sign_of.ensures)

pub returns : goal.returns
unfolding lettered
returns c = on _ (came c.in_ok-sign.was c.sign_of.ensures) c.within.ensures
