use Rattle.text.specs.Prelude.{◌+◌, ◌≤◌, ◌≡◌, places_of}
use Rattle.print.proofs.number.places.Given as goal

-- what was counted and what is left are the whole
abbrev pub invariant-loop-rest : goal.invariant-loop-rest
invariant-loop-rest l = record {
  counted : l.k + places_of l.rest ≡ 1 + places_of l.n;
  small : l.k + l.rest ≤ 1 + l.n;
}

abbrev pub decreases-loop-rest : goal.decreases-loop-rest
decreases-loop-rest l = l.rest
