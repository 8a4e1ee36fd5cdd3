use Rattle.text.specs.Prelude.{take}
use Rattle.put.specs.Put.{Wrote}
use Rattle.sheet_text.specs.Sheet.{answer_lines}
use Rattle.sheet_text.proofs.line.put_answers.Given as goal

-- the lines of the first i counts are written
abbrev pub invariant-loop-i : goal.invariant-loop-i
invariant-loop-i l = Wrote l.initial.buf l.at (answer_lines 0 (take l.i l.answers)) l.buf l.next
