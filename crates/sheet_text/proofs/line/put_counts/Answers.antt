use Rattle.put.proofs.Writing.{then}
use Rattle.text.specs.Spelt.{spelt_from, spelt}
use Rattle.sheet_text.specs.Sheet.{count_lines}
use Rattle.sheet_text.proofs.line.put_counts.Goals as goal

pub returns : goal.returns
unfolding count_lines spelt spelt_from
returns c = search (then)
