use Rattle.text.proofs.Prelude.{ap, ◌∙◌, came}
use Rattle.igc_log.specs.Log.{readings}
use Rattle.moment.specs.Moment.{found_from, asked, by_walk}
use Rattle.moment.proofs.find_by_walk.Goals as goal

pub returns-in-Err : goal.returns-in-Err
unfolding by_walk asked
returns-in-Err c = ap (by_walk _) (came c.in-Err.is c.from_hms.ensures)

-- the search from place 0 is the walk
pub returns-in-Ok : goal.returns-in-Ok
unfolding by_walk asked found_from readings
returns-in-Ok c = c.search.ensures ∙ ap (by_walk _) (came c.in-Ok.is c.from_hms.ensures)
