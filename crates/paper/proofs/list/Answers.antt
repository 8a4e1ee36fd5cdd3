use Rattle.files.proofs.Filling.{ended_inside}
use Rattle.paper.proofs.list.Goals as goal

pub put_answer-n-requires : goal.put_answer-n-requires
put_answer-n-requires c = (
  ended_inside c.read_on-filled.result c.read_on-filled.ensures,
  c.text_buffer-text.ensures,
)
