use Rattle.text.specs.Prelude.{◌+◌, ◌≡◌, drop}
use Rattle.text.specs.Number.{over_in}
use Rattle.text.proofs.number.too_large.Given as goal

-- what is left to say, from here, is the whole
abbrev pub invariant-loop-i : goal.invariant-loop-i
invariant-loop-i l = over_in (l.sign + l.i) (drop l.i l.text) ≡ over_in (l.sign + l.from) (drop l.from l.text)
