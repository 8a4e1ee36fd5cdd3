use Rattle.c_turnpoint_record.specs.CTurnpoint.{turnpoint_book}
use Rattle.c_turnpoint_record.proofs.CRecordTurnpoint.by_the_book.Goals as goal

pub returns : goal.returns
unfolding turnpoint_book
returns c = c.by_the_book.ensures
