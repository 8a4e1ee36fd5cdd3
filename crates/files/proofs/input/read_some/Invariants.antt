use Rattle.std.proofs.Common.{◌≡◌, take}
use Rattle.files.proofs.input.read_some.Given as goal

-- the bytes before the place stay
abbrev pub invariant-loop : goal.invariant-loop
invariant-loop l = take l.at l.buf ≡ take l.at l.initial.buf
