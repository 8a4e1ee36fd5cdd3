use Rattle.text.specs.Prelude.{pick}
use Rattle.text.proofs.Prelude.{arith, yes=, no=}
use Rattle.put.proofs.Writing.{then, wrote_nothing}
use Rattle.text.specs.Spelt.{spelt_from, spelt}
use Rattle.sheet_text.specs.Sheet.{answer_line}
use Rattle.sheet_text.proofs.line.put_answer.Goals as goal

pub returns-then-count-eq0 : goal.returns-then-count-eq0
unfolding answer_line pick
returns-then-count-eq0 c = rw (yes= c.if-count-eq0.true) (wrote_nothing _ _ (omega arith) (omega arith))

pub returns : goal.returns
unfolding answer_line pick spelt spelt_from
returns c = rw (no= c.if-count-eq0.false) (search (then))
