use Rattle.text.proofs.Prelude.{sym, ap}
use Rattle.h_record.specs.HRecord.{source_byte}
use Rattle.h_record.proofs.DataSource.to_byte.Goals as goal

pub returns-in-FVU : goal.returns-in-FVU
unfolding source_byte
returns-in-FVU c = ap source_byte (sym c.in-FVU.is)

pub returns-in-OfficialObserver : goal.returns-in-OfficialObserver
unfolding source_byte
returns-in-OfficialObserver c = ap source_byte (sym c.in-OfficialObserver.is)

pub returns-in-Pilot : goal.returns-in-Pilot
unfolding source_byte
returns-in-Pilot c = ap source_byte (sym c.in-Pilot.is)

pub returns-in-Unrecognized : goal.returns-in-Unrecognized
unfolding source_byte
returns-in-Unrecognized c = ap source_byte (sym c.in-Unrecognized.is)
