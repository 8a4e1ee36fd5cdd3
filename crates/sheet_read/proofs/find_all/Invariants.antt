use Rattle.text.specs.Prelude.{◌≡◌, true, drop}
use Rattle.sheet_read.specs.Sheet.{from_all_of}
use Rattle.sheet_read.proofs.find_all.Given as goal

-- from here on it is the same line
abbrev pub invariant-loop-i : goal.invariant-loop-i
invariant-loop-i l = from_all_of l.start (drop l.i l.text) ≡ from_all_of true l.text
