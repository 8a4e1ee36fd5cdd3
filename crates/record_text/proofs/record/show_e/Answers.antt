use Rattle.put.proofs.Writing.{then}
use Rattle.record_text.specs.Record.{e_shown}
use Rattle.record_text.proofs.record.show_e.Goals as goal

pub returns : goal.returns
unfolding e_shown
returns c = then c.show_time-at_mnemonic.ensures (then c.show_part-at_text.ensures c.show_maybe.ensures)
