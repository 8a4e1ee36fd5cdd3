use Rattle.text.specs.Prelude.{◌≡◌, no}
use Rattle.text.proofs.Prelude.{rules, refl, sym, ◌∙◌, came, on, off}
use Rattle.coord.proofs.Axis.parse.Goals as goal

pub returns-in_err-coord : goal.returns-in_err-coord
returns-in_err-coord g c =
    let left : c.from_residual.result ≡ no c.in_err-coord.field-0.0 = search rules in
    let coord = rw (c.WIDTH.ensures, c.LIMIT.ensures, c.X.ensures, c.Y.ensures) at c.parse.ensures in
    left ∙ off _ (came c.in_err-coord.was coord) ∙ sym (g.met.Self.Axis.laws.read_is c.args.text.now)

pub returns : goal.returns
returns g c =
    let coord = rw (c.WIDTH.ensures, c.LIMIT.ensures, c.X.ensures, c.Y.ensures) at c.parse.ensures in
    on _ (came c.in_ok-coord.was coord) (rw c.of.ensures refl) ∙ sym (g.met.Self.Axis.laws.read_is c.args.text.now)
