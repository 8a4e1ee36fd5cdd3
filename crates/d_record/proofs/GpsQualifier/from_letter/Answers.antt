use Rattle.text.proofs.Prelude.{rules, refl, first, second, yes=, no=}
use Rattle.d_record.specs.DRecord.{qualifier_letter, qualifier_of}
use Rattle.d_record.proofs.GpsQualifier.from_letter.Goals as goal

pub returns-in-49 : goal.returns-in-49
unfolding qualifier_of qualifier_letter
returns-in-49 c = first _ (yes= c.in-49.is) refl

pub returns-in-50 : goal.returns-in-50
unfolding qualifier_of qualifier_letter
returns-in-50 c = second _ (no= (search rules)) (first _ (yes= c.in-50.is) refl)

pub returns-in_default : goal.returns-in_default
unfolding qualifier_of qualifier_letter
returns-in_default c = second _ (no= (search rules)) (second _ (no= (search rules)) refl)
