use Rattle.text.proofs.Prelude.{refl}
use Rattle.print.proofs.Printing.{no_room, written}
use Rattle.print.proofs.printed.print_piece.Goals as goal

pub returns-then-buf-put : goal.returns-then-buf-put
returns-then-buf-put g c = no_room refl c.put.ensures c.if-buf-put.true

pub returns : goal.returns
returns g c = written refl c.put.ensures c.if-buf-put.false c.put-2.ensures
