use Rattle.put.proofs.Writing.{then}
use Rattle.text.specs.Spelt.{spelt_from, spelt}
use Rattle.sheet_text.specs.Sheet.{none_line, time_lines}
use Rattle.sheet_text.proofs.line.put_times.Goals as goal

pub returns-in-None : goal.returns-in-None
unfolding time_lines none_line spelt spelt_from
returns-in-None c = rw c.in-None.is c.put_bytes.ensures

pub returns-in-Some : goal.returns-in-Some
unfolding time_lines spelt spelt_from
returns-in-Some c = rw c.in-Some.is (search (then))
