use Rattle.text.specs.Prelude.{is_digit_of, all_digits_of}
use Rattle.text.proofs.Prelude.{refl, sym, ◌∙◌, holds, fails, so_true, so_false}
use Rattle.field.proofs.Every.{Every, next_seen, all_seen}
use Rattle.field.proofs.all_digits.Goals as goal
use Rattle.field.proofs.all_digits.Goals.{then-not-is_digit, else-not-is_digit}

every_digit : Every is_digit_of all_digits_of
unfolding all_digits_of
every_digit = record { all_nil = refl; all_cons = λ b s. refl }

pub loop-b-init : goal.loop-b-init
loop-b-init c = holds refl refl

pub loop-b-preserved : goal.loop-b-preserved
loop-b-preserved c =
    let digit = c.is_digit.ensures in
    next_seen every_digit _ _ c.loop-b.all c.loop-b-test.true c.loop-b.invariant
    (elim c.if-not-is_digit.branch [
      | then-not-is_digit w ↦ w.all-is ∙ sym (fails _ (so_false digit w.if-not-is_digit.true))
      | else-not-is_digit w ↦ w.all-is ∙ sym (holds (so_true digit w.if-not-is_digit.false) refl)
    ])

pub returns : goal.returns
returns c = all_seen every_digit _ _ c.loop-b-test.false c.loop-b.invariant
