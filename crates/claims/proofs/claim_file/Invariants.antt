use Rattle.claims.specs.Claims.{Going}
use Rattle.claims.proofs.claim_file.Given as goal

-- some bytes have left the window
abbrev pub invariant-loop : goal.invariant-loop
invariant-loop l = Going l.sofar
