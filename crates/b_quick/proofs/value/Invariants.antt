use Rattle.text.specs.Prelude.{◌≡◌, true, drop, all_digits_of, value_from}
use Rattle.b_quick.proofs.value.Given as goal

-- what is left has digits alone, and its value from here is the value of the whole
abbrev pub invariant-loop-d : goal.invariant-loop-d
invariant-loop-d l = record {
  digits : all_digits_of (drop l.d-index l.digits) ≡ true;
  value : value_from l.v (drop l.d-index l.digits) ≡ value_from 0 l.digits;
}
