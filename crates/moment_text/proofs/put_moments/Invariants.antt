use Rattle.text.specs.Prelude.{take}
use Rattle.put.specs.Put.{Wrote}
use Rattle.igc_log.specs.Fold.{texts}
use Rattle.moment_text.specs.Answers.{words_in, answer_line}
use Rattle.moment_text.proofs.put_moments.Given as goal

-- the lines of the first i words are written
abbrev pub invariant-loop-i : goal.invariant-loop-i
invariant-loop-i l = Wrote l.initial.buf l.at (texts (answer_line l.log) (take l.i (words_in l.words))) l.buf l.end
