use Rattle.put.proofs.Writing.{then}
use Rattle.record_text.specs.Record.{a_shown}
use Rattle.record_text.proofs.record.show_a.Goals as goal

pub returns : goal.returns
unfolding a_shown
returns c = rw (c.to_single_char.ensures, c.to_triple_char.ensures) at (then c.show_letter-at_triple.ensures (then c.show_triple-at_id.ensures (then c.show_part-at_extension.ensures c.show_maybe.ensures)))
