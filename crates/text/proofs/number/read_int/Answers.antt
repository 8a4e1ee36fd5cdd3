use Rattle.text.specs.Prelude.{◌≡◌, ok, no, read_int_of}
use Rattle.text.proofs.Prelude.{arith, rules, sym, ap, ◌∙◌, came, on, off, first, second, yes=, no=}
use Rattle.text.proofs.Reading.{digits_le, nat_le}
use Rattle.text.proofs.Lines.{cut_rest}
use Rattle.text.proofs.number.read_int.Goals as goal

pub minus-requires : goal.minus-requires
minus-requires c = omega (arith, digits_le _ _ _ (came c.in_ok-below.was c.read_digits.ensures))

pub plus-requires : goal.plus-requires
plus-requires c = omega (arith, nat_le _ _ (came c.in_ok-above.was c.read_nat.ensures))

pub returns-in_err-below : goal.returns-in_err-below
unfolding read_int_of
returns-in_err-below c =
    let left : c.from_residual.result ≡ no c.in_err-below.field-0.0 = search rules in
    first _ (yes= (sym c.first.ensures ∙ c.if-first-eq45.true))
    (left ∙ off _ (came c.in_err-below.was c.read_digits.ensures ∙ rw cut_rest))

pub returns-then-first-eq45 : goal.returns-then-first-eq45
unfolding read_int_of
returns-then-first-eq45 c =
    first _ (yes= (sym c.first.ensures ∙ c.if-first-eq45.true))
    (on _ (came c.in_ok-below.was c.read_digits.ensures ∙ rw cut_rest) (ap ok (search rules)))

pub returns-in_err-above : goal.returns-in_err-above
unfolding read_int_of
returns-in_err-above c =
    let left : c.from_residual-in_err-above.result ≡ no c.in_err-above.field-0.0 = search rules in
    second _ (no= (λ e. c.if-first-eq45.false (c.first.ensures ∙ e)))
    (left ∙ off _ (came c.in_err-above.was c.read_nat.ensures))

pub returns : goal.returns
unfolding read_int_of
returns c = second _ (no= (λ e. c.if-first-eq45.false (c.first.ensures ∙ e)))
    (on _ (came c.in_ok-above.was c.read_nat.ensures) (ap ok (search rules)))
