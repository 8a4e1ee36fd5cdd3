use Rattle.put.proofs.Writing.{then}
use Rattle.piece_text.specs.Piece.{pressure_shown, gps_shown}
use Rattle.record_text.specs.Record.{fix_shown}
use Rattle.record_text.proofs.record.show_fix.Goals as goal

pub returns : goal.returns
unfolding fix_shown pressure_shown gps_shown
returns c =
    let pressure = then c.put_byte-at_pressure.ensures c.put-at_second.ensures in
    let gps = then c.put_byte-at_gps.ensures c.put-at_rest.ensures in
    rw c.letter.ensures at (then c.show_byte-at_space.ensures (then pressure (then gps c.show_part.ensures)))
