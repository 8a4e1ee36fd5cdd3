use Rattle.text.proofs.Prelude.{rules}
use Rattle.part.specs.Part.{find_maybe}
use Rattle.part.proofs.OptionPartInLine.find.Statement.{statement}
use Rattle.part.proofs.OptionPartInLine.find.Tie as tie

pub find_spec : {M : Type 1} → statement M
unfolding find_maybe
find_spec =
    tie.close (tie.spec (search rules) (search rules) (search rules) (λ c. rw c.in-None.is)
    (λ c. rw c.before.in-Some.is c.find.ensures))
