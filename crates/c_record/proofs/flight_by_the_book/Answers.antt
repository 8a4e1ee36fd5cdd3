use Rattle.c_record.specs.CRecord.{flight_book}
use Rattle.c_record.proofs.flight_by_the_book.Goals as goal

pub returns-in-None : goal.returns-in-None
unfolding flight_book
returns-in-None c = rw c.in-None.is

pub returns-in-Some : goal.returns-in-Some
unfolding flight_book
returns-in-Some c = rw c.in-Some.is c.by_the_book.ensures
