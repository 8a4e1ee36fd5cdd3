use Rattle.put.proofs.Writing.{then}
use Rattle.sheet_text.proofs.heights.SpotPlaced.put.Goals as goal

pub returns : goal.returns
returns g c = search (then)
