use Rattle.text.specs.Prelude.{◌+◌, ◌≡◌, drop, first_other_of}
use Rattle.field.proofs.first_other.Given as goal

-- the first byte from here on that is no digit is that of the whole
abbrev pub invariant-loop-i : goal.invariant-loop-i
invariant-loop-i l = l.i + first_other_of (drop l.i l.text) ≡ first_other_of l.text
