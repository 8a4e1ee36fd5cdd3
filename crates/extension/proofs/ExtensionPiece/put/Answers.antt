use Rattle.put.proofs.Writing.{then}
use Rattle.extension.specs.Extension.{extension_text}
use Rattle.extension.proofs.ExtensionPiece.put.Goals as goal

pub returns : goal.returns
unfolding extension_text
returns c = then c.put_nat-at_end.ensures (then c.put_nat-at_name.ensures c.put.ensures)
