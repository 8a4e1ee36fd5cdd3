use Rattle.window.proofs.Wholes.{NoneFrom}
use Rattle.window.proofs.whole_length.Given as goal

-- no LF stands from i on
abbrev pub invariant-loop-i : goal.invariant-loop-i
invariant-loop-i l = NoneFrom l.piece l.i
