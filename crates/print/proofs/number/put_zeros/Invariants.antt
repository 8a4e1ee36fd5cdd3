use Rattle.text.specs.Prelude.{replicate}
use Rattle.put.specs.Put.{Wrote}
use Rattle.print.proofs.number.put_zeros.Given as goal

-- the first j zeros are written
abbrev pub invariant-loop-j : goal.invariant-loop-j
invariant-loop-j l = Wrote l.initial.buf l.at (replicate l.j 48) l.buf l.next
