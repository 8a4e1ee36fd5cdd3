use Rattle.files.proofs.Filling.{ended_inside}
use Rattle.tasks.proofs.run_files.Goals as goal

pub answer_of-requires : goal.answer_of-requires
answer_of-requires c = (
  ended_inside c.fill-log_filled.result c.fill-log_filled.ensures,
  ended_inside c.fill_labels-labels_filled.result c.fill_labels-labels_filled.ensures,
)
