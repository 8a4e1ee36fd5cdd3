use Rattle.text.specs.Prelude.{◌≡◌, drop}
use Rattle.manufacturer.specs.Maker.{letter_of_lem, known, first_of, is_letter, letter_maker}
use Rattle.manufacturer.specs.declared.Manufacturer.{Manufacturer}
use Rattle.manufacturer.proofs.Manufacturer.parse_single_char.Given as goal

-- the maker stands from the place on
abbrev pub invariant-loop-place : goal.invariant-loop-place
invariant-loop-place l =
    first_of (λ m. is_letter l.letter (letter_of_lem m)) (Manufacturer.UnknownSingle l.letter) (drop l.place known)
    ≡ letter_maker l.letter
