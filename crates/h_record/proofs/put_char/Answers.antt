use Rattle.text.specs.Prelude.{◌≡◌, true, false, pick, ◌≤?◌}
use Rattle.text.proofs.Prelude.{rules, yes≤, no≤}
use Rattle.put.proofs.Writing.{then}
use Rattle.h_record.specs.HRecord.{char_text}
use Rattle.h_record.proofs.put_char.Goals as goal

pub returns-then-b-le127 : goal.returns-then-b-le127
unfolding char_text pick
returns-then-b-le127 c =
    let one : (c.args.b ≤? 127) ≡ true = yes≤ (search rules) in
    rw one c.put_byte.ensures

pub returns : goal.returns
unfolding char_text pick
returns c =
    let two : (c.args.b ≤? 127) ≡ false = no≤ (search rules) in
    rw two (then c.put_byte-next.ensures c.put_byte-2.ensures)
