use Rattle.k_record.specs.KRecord.{k_book}
use Rattle.k_record.proofs.KRecord.by_the_book.Goals as goal

pub returns : goal.returns
unfolding k_book
returns c = c.by_the_book.ensures
