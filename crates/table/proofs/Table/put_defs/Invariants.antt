use Rattle.text.specs.Prelude.{take}
use Rattle.put.specs.Put.{Wrote}
use Rattle.table.specs.Table.{defs_text}
use Rattle.table.proofs.Table.put_defs.Given as goal

-- the definitions so far are written
abbrev pub invariant-loop-def : goal.invariant-loop-def
invariant-loop-def l = Wrote l.initial.buf l.at (defs_text (take l.def-index l.def-items)) l.buf l.next
