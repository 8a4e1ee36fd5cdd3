use Rattle.text.proofs.Prelude.{ap, ◌∙◌}
use Rattle.moment.specs.Moment.{by_index}
use Rattle.moment.proofs.find.Goals as goal

pub returns : goal.returns
returns c = c.answer.ensures ∙ ap (by_index _ _) c.from_hms.ensures
