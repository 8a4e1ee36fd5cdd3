use Rattle.text.specs.Prelude.{◌≡◌, length}
use Rattle.text.proofs.Prelude.{arith, sym, ◌∙◌, so_true, so_false}
use Rattle.field.proofs.Digits.{other_here, other_later, other_nowhere}
use Rattle.field.proofs.first_other.Goals as goal

pub returns-then-not-is_digit : goal.returns-then-not-is_digit
returns-then-not-is_digit c =
    other_here _ _ c.loop-i.invariant c.loop-i-test.true (so_false c.is_digit.ensures c.if-not-is_digit.true)

pub loop-i-preserved : goal.loop-i-preserved
loop-i-preserved c =
    other_later _ _ c.loop-i.invariant c.loop-i-test.true (so_true c.is_digit.ensures c.if-not-is_digit.false)

pub returns : goal.returns
returns c =
    let end : c.loop-i.i ≡ length c.args.text.now = omega arith in
    sym end ∙ other_nowhere _ _ c.loop-i.invariant (omega arith)
