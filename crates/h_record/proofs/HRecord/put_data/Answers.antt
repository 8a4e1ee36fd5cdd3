use Rattle.put.proofs.Writing.{then}
use Rattle.h_record.specs.HRecord.{data_text}
use Rattle.h_record.proofs.HRecord.put_data.Goals as goal

pub returns : goal.returns
unfolding data_text
returns c = then c.put_name-next.ensures c.put_part.ensures
