use Rattle.text.proofs.Prelude.{rules, refl, first, second, yes=, no=}
use Rattle.raw_coord.specs.Coord.{sign_of}
use Rattle.raw_coord.proofs.sign_of.Goals as goal

pub returns-then-letter : goal.returns-then-letter
unfolding sign_of
returns-then-letter c = first _ (yes= (search rules)) refl

pub returns-then-letter-2 : goal.returns-then-letter-2
unfolding sign_of
returns-then-letter-2 c = second _ (no= (search rules)) (first _ (yes= (search rules)) refl)

pub returns : goal.returns
unfolding sign_of
returns c = second _ (no= (search rules)) (second _ (no= (search rules)) refl)
