use Rattle.text.specs.Prelude.{◌-◌, ◌≤◌, ◌≡◌, length, drop}
use Rattle.field.specs.Field.{is_ascii_of}
use Rattle.field.proofs.is_ascii.Given as goal

-- what is left, from here, is the whole
abbrev pub invariant-loop-i : goal.invariant-loop-i
invariant-loop-i l = record {
  inside : l.i ≤ length l.text;
  left : is_ascii_of (drop l.i l.text) ≡ is_ascii_of l.text;
}

abbrev pub decreases-loop-i : goal.decreases-loop-i
decreases-loop-i l = length l.text - l.i
