use Rattle.text.proofs.Prelude.{rules, refl}
use Rattle.part.specs.Part.{find_maybe, shown, bytes_of}
use Rattle.part.proofs.OptionPartInLine.view.Statement.{statement}
use Rattle.part.proofs.OptionPartInLine.view.Tie as tie

pub view_spec : {M : Type 1} → statement M
unfolding find_maybe shown bytes_of
view_spec =
    tie.close
    (tie.spec
    (search rules) (search rules) (search rules) (search rules) (search rules) (search rules)
    (λ c. rw c.before.in-None.is (record { bytes = refl; lies = refl }))
    (λ c. rw c.before.in-Some.is c.view.ensures))
