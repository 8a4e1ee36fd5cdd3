use Rattle.text.specs.Prelude.{◌≡◌, drop}
use Rattle.field.specs.Field.{is_ascii_of}
use Rattle.field.proofs.ascii_tail.Given as goal

-- what is left, from here, is the whole
abbrev pub invariant-loop-b : goal.invariant-loop-b
invariant-loop-b l = is_ascii_of (drop l.b-index l.text) ≡ is_ascii_of l.text
