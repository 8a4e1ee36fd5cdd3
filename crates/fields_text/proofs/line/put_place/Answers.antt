use Rattle.text.specs.Prelude.{placed}
use Rattle.text.proofs.Prelude.{sym, ◌∙◌}
use Rattle.put.proofs.Writing.{then}
use Rattle.fields_text.specs.Line.{place_shown}
use Rattle.fields_text.proofs.line.put_place.Goals as goal

pub returns-in-Some : goal.returns-in-Some
unfolding place_shown placed
returns-in-Some c = rw (sym c.place.ensures ∙ c.in-Some.is) (then c.put_byte-at_place.ensures c.put_nat.ensures)
