use Rattle.text.specs.Prelude.{None, Some, ◌≡◌}
use Rattle.text.proofs.Prelude.{arith, sym, ◌∙◌}
use Rattle.put.proofs.Writing.{wrote_nothing}
use Rattle.manufacturer.specs.Maker.{triple_of}
use Rattle.a_record.specs.ARecord.{triple_text}
use Rattle.a_record.proofs.put_triple.Goals as goal

pub returns-in-Some : goal.returns-in-Some
unfolding triple_text
returns-in-Some c =
    let three : triple_of c.args.m ≡ Some c.in-Some.triple = sym c.to_triple_char.ensures ∙ c.in-Some.is in
    rw three c.put.ensures

pub returns-in-None : goal.returns-in-None
unfolding triple_text
returns-in-None c =
    let none : triple_of c.args.m ≡ None = sym c.to_triple_char.ensures ∙ c.in-None.is in
    rw none (wrote_nothing _ _ (omega arith) (omega arith))
