use Rattle.put.proofs.Writing.{then}
use Rattle.text.specs.Spelt.{spelt_from, spelt}
use Rattle.sheet_text.specs.Sheet.{all_text}
use Rattle.sheet_text.proofs.put_all.Goals as goal

pub returns : goal.returns
unfolding all_text spelt spelt_from
returns c = search (then)
