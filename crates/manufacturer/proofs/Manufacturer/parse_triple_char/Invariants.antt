use Rattle.text.specs.Prelude.{◌≡◌, drop}
use Rattle.manufacturer.specs.Maker.{triple_of, known, first_of, is_triple, triple_maker}
use Rattle.manufacturer.specs.declared.Manufacturer.{Manufacturer}
use Rattle.manufacturer.proofs.Manufacturer.parse_triple_char.Given as goal

-- the maker stands from the place on
abbrev pub invariant-loop-place : goal.invariant-loop-place
invariant-loop-place l =
    first_of (λ m. is_triple l.triple (triple_of m)) (Manufacturer.UnknownTriple l.triple) (drop l.place known)
    ≡ triple_maker l.triple
