use Rattle.text.specs.Prelude.{◌≡◌, no, cut, columns}
use Rattle.text.proofs.Prelude.{rules, refl, came, on, off, counted, pass, stop, ◌∙◌, yes=, no=}
use Rattle.field.specs.Field.{sized}
use Rattle.three.specs.Three.{read_three_of}
use Rattle.three.proofs.read_three.Goals as goal

pub returns-then-text-ne6 : goal.returns-then-text-ne6
unfolding sized
returns-then-text-ne6 c = stop _ (no= c.if-text-ne6.true)

pub returns-in_err-first : goal.returns-in_err-first
unfolding sized read_three_of columns cut
returns-in_err-first c =
    let left : c.from_residual.result ≡ no c.in_err-first.field-0.0 = search rules in
    let first = came c.in_err-first.was (counted 0 c.counted_from.ensures c.read_u8.ensures) in
    pass _ (yes= c.if-text-ne6.false) (left ∙ off _ first)

pub returns-in_err-second : goal.returns-in_err-second
unfolding sized read_three_of columns cut
returns-in_err-second c =
    let left : c.from_residual-in_err-second.result ≡ no c.in_err-second.field-0.0 = search rules in
    let first = came c.in_ok-first.was (counted 0 c.counted_from.ensures c.read_u8.ensures) in
    let second = came c.in_err-second.was (counted 2 c.counted_from-2.ensures c.read_u8-2.ensures) in
    pass _ (yes= c.if-text-ne6.false) (left ∙ on _ first (off _ second))

pub returns-in_err-third : goal.returns-in_err-third
unfolding sized read_three_of columns cut
returns-in_err-third c =
    let left : c.from_residual-in_err-third.result ≡ no c.in_err-third.field-0.0 = search rules in
    let first = came c.in_ok-first.was (counted 0 c.counted_from.ensures c.read_u8.ensures) in
    let second = came c.in_ok-second.was (counted 2 c.counted_from-2.ensures c.read_u8-2.ensures) in
    let third = came c.in_err-third.was (counted 4 c.counted_from-3.ensures c.read_u8-3.ensures) in
    pass _ (yes= c.if-text-ne6.false) (left ∙ on _ first (on _ second (off _ third)))

pub returns : goal.returns
unfolding sized read_three_of columns cut
returns c =
    let first = came c.in_ok-first.was (counted 0 c.counted_from.ensures c.read_u8.ensures) in
    let second = came c.in_ok-second.was (counted 2 c.counted_from-2.ensures c.read_u8-2.ensures) in
    let third = came c.in_ok-third.was (counted 4 c.counted_from-3.ensures c.read_u8-3.ensures) in
    pass _ (yes= c.if-text-ne6.false) (on _ first (on _ second (on _ third refl)))
