use Rattle.text.specs.Prelude.{◌+◌, ◌≤◌, ◌≡◌, drop}
use Rattle.text.proofs.Reading.{digits_from}
use Rattle.text.proofs.number.read_digits.Given as goal

-- what is left to read, from here, is the whole
abbrev pub invariant-loop-i : goal.invariant-loop-i
invariant-loop-i l = record {
  small : l.value ≤ l.most;
  left : digits_from (l.sign + l.i) l.most l.value (drop l.i l.text) ≡ digits_from l.sign l.most 0 l.text;
}
