use Rattle.files.proofs.Filling.{ended_inside}
use Rattle.moments.proofs.answer_on.Goals as goal

pub put_answers-end-requires : goal.put_answers-end-requires
put_answers-end-requires c = ended_inside c.read_on-filled.result c.read_on-filled.ensures
