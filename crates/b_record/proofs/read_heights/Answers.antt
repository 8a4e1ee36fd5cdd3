use Rattle.text.specs.Prelude.{◌≡◌, no, cut, columns}
use Rattle.text.proofs.Prelude.{rules, came, on, off, counted, ◌∙◌}
use Rattle.b_record.specs.BRecord.{read_heights_of}
use Rattle.b_record.proofs.read_heights.Goals as goal

pub returns-in_err-by_pressure : goal.returns-in_err-by_pressure
unfolding read_heights_of columns cut
returns-in_err-by_pressure c =
    let left : c.from_residual.result ≡ no c.in_err-by_pressure.field-0.0 = search rules in
    left ∙ off _ (came c.in_err-by_pressure.was (counted 25 c.counted_from.ensures c.read_i16.ensures))

pub returns-in_err-by_gps : goal.returns-in_err-by_gps
unfolding read_heights_of columns cut
returns-in_err-by_gps c =
    let left : c.from_residual-in_err-by_gps.result ≡ no c.in_err-by_gps.field-0.0 = search rules in
    let pressure = came c.in_ok-by_pressure.was (counted 25 c.counted_from.ensures c.read_i16.ensures) in
    let gps = came c.in_err-by_gps.was (counted 30 c.counted_from-2.ensures c.read_i16-2.ensures) in
    left ∙ on _ pressure (off _ gps)

pub returns : goal.returns
unfolding read_heights_of columns cut
returns c =
    let pressure = came c.in_ok-by_pressure.was (counted 25 c.counted_from.ensures c.read_i16.ensures) in
    let gps = came c.in_ok-by_gps.was (counted 30 c.counted_from-2.ensures c.read_i16-2.ensures) in
    on _ pressure (on _ gps (search rules))
