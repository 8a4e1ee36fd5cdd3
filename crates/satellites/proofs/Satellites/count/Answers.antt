use Rattle.text.proofs.Prelude.{rules}
use Rattle.satellites.proofs.Sets.{count_both}
use Rattle.satellites.proofs.Reading.{counts}
use Rattle.satellites.proofs.Satellites.count.Goals as goal

pub returns : goal.returns
returns c = counts (count_both _ (search rules) (search rules))
