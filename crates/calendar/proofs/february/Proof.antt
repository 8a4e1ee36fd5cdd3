use Rattle.text.proofs.Prelude.{rules, refl, first, second, yes=, no=}
use Rattle.calendar.specs.Days.{february}
use Rattle.calendar.proofs.february.Statement.{statement}
use Rattle.calendar.proofs.february.Tie as tie

pub february_spec : {M : Type 1} → statement M
unfolding february
february_spec = tie.close (tie.spec (λ c. first _ (yes= (search rules)) refl) (λ c. second _ (no= (search rules)) refl))
