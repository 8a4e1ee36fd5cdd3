use Rattle.put.proofs.Writing.{then}
use Rattle.sheet_text.specs.Sheet.{number_line}
use Rattle.sheet_text.proofs.line.put_number.Goals as goal

pub returns : goal.returns
unfolding number_line
returns c = search (then)
