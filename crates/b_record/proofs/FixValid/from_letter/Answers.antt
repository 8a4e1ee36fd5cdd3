use Rattle.text.specs.Prelude.{pick, ◌=?◌}
use Rattle.text.proofs.Prelude.{refl, sym, ap, second, no=}
use Rattle.b_record.specs.BRecord.{valid_letter, valid_of}
use Rattle.b_record.proofs.FixValid.from_letter.Goals as goal

pub returns-in-65 : goal.returns-in-65
unfolding valid_of valid_letter pick ◌=?◌
returns-in-65 c = ap valid_of (sym c.in-65.is)

pub returns-in-86 : goal.returns-in-86
unfolding valid_of valid_letter pick ◌=?◌
returns-in-86 c = ap valid_of (sym c.in-86.is)

pub returns-in_default : goal.returns-in_default
unfolding valid_of valid_letter
returns-in_default c =
    second _ (no= c.in_default.in_default-own.rest.0.1) (second _ (no= c.in_default.in_default-own.rest.1) refl)
