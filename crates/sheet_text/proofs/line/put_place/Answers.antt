use Rattle.text.specs.Spelt.{spelt_from, spelt}
use Rattle.sheet_text.specs.Sheet.{at_place_of}
use Rattle.sheet_text.proofs.line.put_place.Goals as goal

pub returns : goal.returns
unfolding at_place_of spelt spelt_from
returns c = c.put_number.ensures
