use Rattle.text.specs.Prelude.{◌≡◌, true, get_or, is_digit_of}
use Rattle.text.proofs.Prelude.{arith, refl, sym, ◌∙◌}
use Rattle.finer.proofs.Reading.{ascii_digit, from_start, other_refused, digit_next, digits_done, digit_range, one_more}
use Rattle.finer.proofs.read_plain.Goals as goal

pub loop-i-init : goal.loop-i-init
loop-i-init c = record { small = omega arith; left = from_start _ }

pub returns-then-not-is_ascii_digit : goal.returns-then-not-is_ascii_digit
returns-then-not-is_ascii_digit c =
    other_refused _ _ _ _ (omega arith) refl c.loop-i.invariant.left
    (sym (ascii_digit _) ∙ sym c.is_ascii_digit.ensures.value ∙ c.if-not-is_ascii_digit.true)

pub loop-i-preserved : goal.loop-i-preserved
loop-i-preserved c =
    let digit : is_digit_of (get_or c.args.text.now c.loop-i.i 0) ≡ true =
    sym (ascii_digit _) ∙ sym c.is_ascii_digit.ensures.value ∙ c.if-not-is_ascii_digit.false in
    record {
      small = one_more _ _ _ c.loop-i.invariant.small (omega (arith, digit_range digit));
      left = digit_next _ _ _ _ (omega arith) refl c.loop-i.invariant.left digit;
    }

pub returns : goal.returns
returns c = digits_done _ _ c.loop-i.i (omega arith) c.loop-i.invariant.left
