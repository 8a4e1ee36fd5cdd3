use Rattle.c_record.specs.CRecord.{flight_text}
use Rattle.c_record.proofs.put_flight.Goals as goal

pub returns-in-None : goal.returns-in-None
unfolding flight_text
returns-in-None c = rw c.in-None.is c.put_bytes.ensures

pub returns-in-Some : goal.returns-in-Some
unfolding flight_text
returns-in-Some c = rw c.in-Some.is c.put.ensures
