use Rattle.text.specs.Prelude.{no}
use Rattle.text.proofs.Prelude.{arith, ap, ◌∙◌, so_true, so_false}
use Rattle.text.proofs.Reading.{digits_empty, digit_range, other_refused, over_most_refused, digit_next, digits_done}
use Rattle.text.proofs.number.read_digits.Goals as goal

pub returns-then-text-eq0 : goal.returns-then-text-eq0
returns-then-text-eq0 c = digits_empty _ _ _ c.if-text-eq0.true

pub returns-then-not-is_digit : goal.returns-then-not-is_digit
returns-then-not-is_digit c =
    other_refused _ _ _ _ _ (omega arith) c.loop-i.invariant.left (so_false c.is_digit.ensures c.if-not-is_digit.true)

pub overflow_sub-value : goal.overflow_sub-value
overflow_sub-value c = (digit_range (so_true c.is_digit.ensures c.if-not-is_digit.false)).0

pub returns-then-top-value : goal.returns-then-top-value
returns-then-top-value c =
    ap no c.too_large.ensures ∙ over_most_refused _ _ _ _ _ (omega arith) c.loop-i.invariant.left
    (so_true c.is_digit.ensures c.if-not-is_digit.false) c.if-top-value.true

pub loop-i-preserved : goal.loop-i-preserved
loop-i-preserved c = record {
  small = c.if-top-value.false;
  left = digit_next _ _ _ _ _ (omega arith) c.loop-i.invariant.left
      (so_true c.is_digit.ensures c.if-not-is_digit.false);
}

pub returns : goal.returns
returns c = digits_done _ _ _ _ _ (omega arith) (omega arith) c.loop-i.invariant.small c.loop-i.invariant.left
