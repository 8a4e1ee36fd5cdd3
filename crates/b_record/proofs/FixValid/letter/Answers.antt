use Rattle.text.proofs.Prelude.{sym, ap}
use Rattle.b_record.specs.BRecord.{valid_letter}
use Rattle.b_record.proofs.FixValid.letter.Goals as goal

pub returns-in-Valid : goal.returns-in-Valid
unfolding valid_letter
returns-in-Valid c = ap valid_letter (sym c.in-Valid.is)

pub returns-in-NavWarning : goal.returns-in-NavWarning
unfolding valid_letter
returns-in-NavWarning c = ap valid_letter (sym c.in-NavWarning.is)
