use Rattle.text.specs.Prelude.{◌≡◌, no, cut, columns}
use Rattle.text.proofs.Prelude.{rules, arith, ◌∙◌, came, on, off, counted, pass, stop, yes=, no=}
use Rattle.field.specs.Field.{sized}
use Rattle.raw_coord.specs.Coord.{read_coord}
use Rattle.raw_coord.proofs.RawCoord.parse_ascii.Goals as goal

pub returns-then-text-lt6 : goal.returns-then-text-lt6
unfolding sized
returns-then-text-lt6 c = stop _ (no= (grind arith))

pub returns-in_err-degrees : goal.returns-in_err-degrees
unfolding sized read_coord columns cut
returns-in_err-degrees c =
    let left : c.from_residual.result ≡ no c.in_err-degrees.field-0.0 = search rules in
    let degrees = came c.in_err-degrees.was (counted 0 c.counted_from.ensures c.read_u8.ensures) in
    pass _ (yes= (omega arith)) (left ∙ off _ degrees)

pub returns-in_err-thousandths : goal.returns-in_err-thousandths
unfolding sized read_coord columns cut
returns-in_err-thousandths c =
    let left : c.from_residual-in_err-thousandths.result ≡ no c.in_err-thousandths.field-0.0 = search rules in
    let degrees = came c.in_ok-degrees.was (counted 0 c.counted_from.ensures c.read_u8.ensures) in
    let thousandths = came c.in_err-thousandths.was (counted c.args.d c.counted_from-2.ensures c.read_u16.ensures) in
    pass _ (yes= (omega arith)) (left ∙ on _ degrees (off _ thousandths))

pub returns : goal.returns
unfolding sized read_coord columns cut
returns c =
    let degrees = came c.in_ok-degrees.was (counted 0 c.counted_from.ensures c.read_u8.ensures) in
    let thousandths = came c.in_ok-thousandths.was (counted c.args.d c.counted_from-2.ensures c.read_u16.ensures) in
    pass _ (yes= (omega arith)) (on _ degrees (on _ thousandths c.lettered.ensures))
