use Rattle.claim.specs.Step.{out_of_place}
use Rattle.claim.proofs.Sofar.is_out_of_place.Goals as goal

pub returns : goal.returns
unfolding out_of_place
returns c = rw (← c.is_again.ensures, ← c.is_again-2.ensures) c.either.ensures
