use Rattle.put.proofs.Writing.{then}
use Rattle.text.specs.Spelt.{spelt_from, spelt}
use Rattle.sheet_text.specs.Sheet.{none_line, range_lines}
use Rattle.sheet_text.proofs.heights.put_range.Goals as goal

pub returns-in-None : goal.returns-in-None
unfolding range_lines none_line spelt spelt_from
returns-in-None g c = rw c.in-None.is (search (then))

pub returns-in-Some : goal.returns-in-Some
unfolding range_lines spelt spelt_from
returns-in-Some g c = rw c.in-Some.is (search (then))
