use Rattle.text.specs.Prelude.{cut}
use Rattle.text.proofs.Prelude.{sym, holds, fails, so_true, so_false}
use Rattle.b_quick.specs.Quick.{plain_digits}
use Rattle.b_quick.proofs.plain.Goals as goal

pub returns-then-not-all_digits : goal.returns-then-not-all_digits
unfolding plain_digits cut
returns-then-not-all_digits c = sym (fails _ (so_false c.all_digits.ensures c.if-not-all_digits.true))

pub returns-then-not-all_digits-2 : goal.returns-then-not-all_digits-2
unfolding plain_digits cut
returns-then-not-all_digits-2 c =
    sym (holds (so_true c.all_digits.ensures c.if-not-all_digits.false)
    (fails _ (so_false c.all_digits-2.ensures c.if-not-all_digits-2.true)))

pub returns-then-not-all_digits-3 : goal.returns-then-not-all_digits-3
unfolding plain_digits cut
returns-then-not-all_digits-3 c =
    sym (holds (so_true c.all_digits.ensures c.if-not-all_digits.false)
    (holds (so_true c.all_digits-2.ensures c.if-not-all_digits-2.false)
    (fails _ (so_false c.all_digits-3.ensures c.if-not-all_digits-3.true))))

pub returns-then-not-all_digits-4 : goal.returns-then-not-all_digits-4
unfolding plain_digits cut
returns-then-not-all_digits-4 c =
    sym (holds (so_true c.all_digits.ensures c.if-not-all_digits.false)
    (holds (so_true c.all_digits-2.ensures c.if-not-all_digits-2.false)
    (holds (so_true c.all_digits-3.ensures c.if-not-all_digits-3.false)
    (fails _ (so_false c.all_digits-4.ensures c.if-not-all_digits-4.true)))))

pub returns : goal.returns
unfolding plain_digits cut
returns c =
    sym (holds (so_true c.all_digits.ensures c.if-not-all_digits.false)
    (holds (so_true c.all_digits-2.ensures c.if-not-all_digits-2.false)
    (holds (so_true c.all_digits-3.ensures c.if-not-all_digits-3.false)
    (holds (so_true c.all_digits-4.ensures c.if-not-all_digits-4.false)
    (sym c.all_digits-5.ensures)))))
