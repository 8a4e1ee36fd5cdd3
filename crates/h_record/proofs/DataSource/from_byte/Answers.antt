use Rattle.text.proofs.Prelude.{rules, refl, first, second, yes=, no=}
use Rattle.h_record.specs.HRecord.{source_byte, source_of}
use Rattle.h_record.proofs.DataSource.from_byte.Goals as goal

pub returns-in-70 : goal.returns-in-70
unfolding source_of source_byte
returns-in-70 c = first _ (yes= c.in-70.is) refl

pub returns-in-79 : goal.returns-in-79
unfolding source_of source_byte
returns-in-79 c = second _ (no= (search rules)) (first _ (yes= c.in-79.is) refl)

pub returns-in-80 : goal.returns-in-80
unfolding source_of source_byte
returns-in-80 c = second _ (no= (search rules)) (second _ (no= (search rules)) (first _ (yes= c.in-80.is) refl))

pub returns-in_default : goal.returns-in_default
unfolding source_of source_byte
returns-in_default c =
    second _ (no= (search rules)) (second _ (no= (search rules)) (second _ (no= (search rules)) refl))
