use Rattle.f_record.specs.FRecord.{f_book}
use Rattle.f_record.proofs.FRecord.by_the_book.Goals as goal

pub returns : goal.returns
unfolding f_book
returns c = c.by_the_book.ensures
