use Rattle.text.specs.Prelude.{◌≡◌, no, cut, columns}
use Rattle.text.proofs.Prelude.{rules, refl, ◌∙◌, came, on, off, counted, pass, stop, yes=, no=}
use Rattle.field.specs.Field.{sized}
use Rattle.position.specs.Position.{read_both, position_in}
use Rattle.position.proofs.RawPosition.parse_ascii.Goals as goal

pub returns-then-text-ne17 : goal.returns-then-text-ne17
unfolding position_in sized
returns-then-text-ne17 c = stop _ (no= c.if-text-ne17.true)

pub returns-in_err-lat : goal.returns-in_err-lat
unfolding position_in sized read_both columns cut
returns-in_err-lat c =
    let left : c.from_residual.result ≡ no c.in_err-lat.field-0.0 = search rules in
    let lat = came c.in_err-lat.was (counted 0 c.counted_from.ensures c.parse_ascii.ensures) in
    pass _ (yes= c.if-text-ne17.false) (left ∙ off _ lat)

pub returns-in_err-lon : goal.returns-in_err-lon
unfolding position_in sized read_both columns cut
returns-in_err-lon c =
    let left : c.from_residual-in_err-lon.result ≡ no c.in_err-lon.field-0.0 = search rules in
    let lat = came c.in_ok-lat.was (counted 0 c.counted_from.ensures c.parse_ascii.ensures) in
    let lon = came c.in_err-lon.was (counted 8 c.counted_from-2.ensures c.parse_ascii-2.ensures) in
    pass _ (yes= c.if-text-ne17.false) (left ∙ on _ lat (off _ lon))

pub returns : goal.returns
unfolding position_in sized read_both columns cut
returns c =
    let lat = came c.in_ok-lat.was (counted 0 c.counted_from.ensures c.parse_ascii.ensures) in
    let lon = came c.in_ok-lon.was (counted 8 c.counted_from-2.ensures c.parse_ascii-2.ensures) in
    pass _ (yes= c.if-text-ne17.false) (on _ lat (on _ lon refl))
