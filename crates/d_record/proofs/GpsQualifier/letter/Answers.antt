use Rattle.text.proofs.Prelude.{sym, ap}
use Rattle.d_record.specs.DRecord.{qualifier_letter}
use Rattle.d_record.proofs.GpsQualifier.letter.Goals as goal

pub returns-in-Gps : goal.returns-in-Gps
unfolding qualifier_letter
returns-in-Gps c = ap qualifier_letter (sym c.in-Gps.is)

pub returns-in-DGps : goal.returns-in-DGps
unfolding qualifier_letter
returns-in-DGps c = ap qualifier_letter (sym c.in-DGps.is)
