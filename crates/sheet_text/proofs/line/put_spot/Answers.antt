use Rattle.put.proofs.Writing.{then}
use Rattle.text.specs.Spelt.{spelt_from, spelt}
use Rattle.sheet_text.specs.Sheet.{at_spot}
use Rattle.sheet_text.proofs.line.put_spot.Goals as goal

pub returns : goal.returns
unfolding at_spot spelt spelt_from
returns c = search (then)
