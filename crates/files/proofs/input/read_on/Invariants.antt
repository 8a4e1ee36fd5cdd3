use Rattle.std.proofs.Common.{◌≡◌, ◌-◌, ◌≤◌, length, take}
use Rattle.files.proofs.input.read_on.Given as goal

-- the bytes before the first place stay, and none is read over
abbrev pub invariant-loop-at : goal.invariant-loop-at
invariant-loop-at l = record {
  from_at : l.initial.from ≤ l.at;
  front : take l.initial.from l.buf ≡ take l.initial.from l.initial.buf;
}

abbrev pub decreases-loop-at : goal.decreases-loop-at
decreases-loop-at l = length l.initial.buf - l.at
