use Rattle.text.specs.Prelude.{◌≤◌, ◌≡◌, drop, largest}
use Rattle.block_read.specs.Read.{front_from}
use Rattle.block_read.proofs.number.front.Given as goal

-- what is left, from here, is the whole
abbrev pub invariant-loop-i : goal.invariant-loop-i
invariant-loop-i l = (l.value ≤ largest) × (front_from l.value (drop l.i l.text) ≡ front_from 0 (drop l.at l.text))
