use Rattle.sheet_file.proofs.Going.{Gone}
use Rattle.sheet_file.proofs.read_file.Given as goal

-- whole lines went by, and none of them begins with `all `
abbrev pub invariant-loop : goal.invariant-loop
invariant-loop l = Gone l.before
