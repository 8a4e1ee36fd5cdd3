use Rattle.table.proofs.Defs.{Turn}
use Rattle.table.proofs.Table.parse_defs.Given as goal

-- i definitions were read
abbrev pub invariant-loop-i : goal.invariant-loop-i
invariant-loop-i l = Turn l.line l.n l.i l.table.defs
