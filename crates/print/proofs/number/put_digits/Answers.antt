use Rattle.text.specs.Prelude.{suc, ◌-◌, ◌≡◌, digits}
use Rattle.text.proofs.Prelude.{arith, ◌∙◌}
use Rattle.text.proofs.Decimal.{length_digits}
use Rattle.put.proofs.Writing.{wrote_length, wrote_past}
use Rattle.print.proofs.Numbers.{digit_before}
use Rattle.print.proofs.number.put_digits.Goals as goal

pub returns-then-buf-at : goal.returns-then-buf-at
returns-then-buf-at c = wrote_past _ c.if-buf-at.true (omega arith) (rw length_digits c.after.ensures)

pub loop-i-preserved : goal.loop-i-preserved
loop-i-preserved c =
    let l = c.loop-i in
    let e : l.i ≡ suc (l.i - 1) = omega arith in
    let w = c.put_byte.ensures in record {
      same_length = wrote_length w ∙ l.invariant.same_length;
      asked = digit_before _ (l.i - 1) _ c.after-in-loop-i.ensures w ∙ rw e at l.invariant.asked;
    }

pub returns : goal.returns
unfolding digits
returns c =
    let l = c.loop-i in
    let e : l.i ≡ 0 = omega arith in
    record { next = rw length_digits c.after-2.ensures; content = rw e at l.invariant.asked; short = omega arith }
