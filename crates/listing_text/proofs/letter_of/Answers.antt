use Rattle.text.specs.Prelude.{ℕ, List, length, ◌≡◌, byte, pick, ◌≤?◌, ◌∧?◌}
use Rattle.text.proofs.Prelude.{arith}
use Rattle.std.proofs.lemmas.Bool.Decides.{nat_tests}
use lib.ListN.{get_or-eq_default}
use Rattle.listing_text.specs.Line.{first_letter}
use Rattle.listing_text.proofs.letter_of.Goals as goal

-- no line is shorter, and its first byte counts as 0
none_there : (s : List ℕ) → length s ≡ 0 → byte 0 s ≡ 0
none_there s h = get_or-eq_default s 0 {n = 0} (omega arith)

pub returns-then-line-eq0 : goal.returns-then-line-eq0
unfolding first_letter pick ◌≤?◌ ◌∧?◌
returns-then-line-eq0 c = grind (arith, nat_tests, none_there c.args.line.now)

pub returns : goal.returns
unfolding first_letter pick ◌≤?◌ ◌∧?◌
returns c = grind (arith, nat_tests)
