use Rattle.text.specs.Prelude.{read_nat_of}
use Rattle.text.proofs.Prelude.{sym, ◌∙◌, first, second, yes=, no=}
use Rattle.text.proofs.Lines.{cut_rest}
use Rattle.text.proofs.number.read_nat.Goals as goal

pub returns-then-first-eq43 : goal.returns-then-first-eq43
unfolding read_nat_of
returns-then-first-eq43 c =
    first _ (yes= (sym c.first.ensures ∙ c.if-first-eq43.true)) (c.read_digits.ensures ∙ rw cut_rest)

pub returns-else-first-eq43 : goal.returns-else-first-eq43
unfolding read_nat_of
returns-else-first-eq43 c =
    second _ (no= (λ e. c.if-first-eq43.false (c.first.ensures ∙ e))) c.read_digits-else-first-eq43.ensures
