use Rattle.text.specs.Prelude.{◌≡◌, drop, ◌∧?◌, all_digits_of}
use Rattle.field.proofs.all_digits.Given as goal

-- what is seen and what is left, from here, are the whole
abbrev pub invariant-loop-b : goal.invariant-loop-b
invariant-loop-b l = (l.all ∧? all_digits_of (drop l.b-index l.text)) ≡ all_digits_of l.text
