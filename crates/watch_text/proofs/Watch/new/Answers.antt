use Rattle.cursor.specs.Cursor.{start}
use Rattle.watch_text.specs.Watch.{nothing_raised}
use Rattle.watch_text.proofs.Watch.new.Goals as goal

pub returns : goal.returns
unfolding nothing_raised start
returns c = rw (c.new.ensures, c.new-2.ensures)
