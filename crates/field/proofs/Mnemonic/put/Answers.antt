use Rattle.put.proofs.Writing.{then}
use Rattle.field.specs.Field.{mnemonic_text}
use Rattle.field.proofs.Mnemonic.put.Goals as goal

pub returns : goal.returns
unfolding mnemonic_text
returns c = then c.put_byte-at_second.ensures (then c.put_byte-at_third.ensures c.put_byte.ensures)
