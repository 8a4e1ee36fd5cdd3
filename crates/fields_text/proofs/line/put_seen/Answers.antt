use Rattle.put.proofs.Writing.{then}
use Rattle.fields_text.specs.Line.{seen}
use Rattle.fields_text.proofs.line.put_seen.Goals as goal

pub returns : goal.returns
unfolding seen
returns c =
    rw c.table-table.ensures
    at (then c.show_record-at_book.ensures (then c.put_book-at_sign.ensures c.put_printed.ensures))
