use Rattle.e_record.specs.ERecord.{e_book}
use Rattle.e_record.proofs.ERecord.by_the_book.Goals as goal

pub returns : goal.returns
unfolding e_book
returns c = c.by_the_book.ensures
