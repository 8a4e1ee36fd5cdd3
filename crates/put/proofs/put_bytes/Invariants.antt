use Rattle.text.specs.Prelude.{take}
use Rattle.put.specs.Put.{Wrote}
use Rattle.put.proofs.put_bytes.Given as goal

-- the bytes so far are written
abbrev pub invariant-loop-b : goal.invariant-loop-b
invariant-loop-b l = Wrote l.initial.buf l.at (take l.b-index l.src) l.buf l.next
