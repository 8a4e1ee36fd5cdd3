use Rattle.text.specs.Prelude.{◌≡◌, no}
use Rattle.text.proofs.Prelude.{rules, refl, ◌∙◌, came, on, off, first, second, so_true, so_false}
use Rattle.c_record.specs.CRecord.{read_flight_of}
use Rattle.c_record.proofs.read_flight.Goals as goal

pub returns-then-all_zeros : goal.returns-then-all_zeros
unfolding read_flight_of
returns-then-all_zeros c = first _ (so_true c.all_zeros.ensures c.if-all_zeros.true) refl

pub returns-in_err-date : goal.returns-in_err-date
unfolding read_flight_of
returns-in_err-date c =
    let left : c.from_residual.result ≡ no c.in_err-date.field-0.0 = search rules in
    second _ (so_false c.all_zeros.ensures c.if-all_zeros.false)
    (left ∙ off _ (came c.in_err-date.was c.parse.ensures))

pub returns : goal.returns
unfolding read_flight_of
returns c =
    second _ (so_false c.all_zeros.ensures c.if-all_zeros.false)
    (on _ (came c.in_ok-date.was c.parse.ensures) refl)
