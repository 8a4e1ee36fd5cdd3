use Rattle.text.specs.Prelude.{◌+◌, ◌≡◌, drop}
use Rattle.block_read.specs.Read.{starts_with}
use Rattle.block_read.proofs.number.stands.Given as goal

-- whether the rest of the words stands from here on is whether all of them do
abbrev pub invariant-loop-i : goal.invariant-loop-i
invariant-loop-i l =
    starts_with (drop l.i l.words) (drop (l.at + l.i) l.text) ≡ starts_with l.words (drop l.at l.text)
