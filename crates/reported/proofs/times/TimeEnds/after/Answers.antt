use Rattle.text.proofs.Prelude.{refl, first, second, so_true, so_false}
use Rattle.reported.specs.Flat.{ranged, one_seen, with_time_of}
use Rattle.reported.proofs.Keeping.{times_seen}
use Rattle.reported.proofs.times.TimeEnds.after.Goals as goal

pub returns-then-not-counts : goal.returns-then-not-counts
unfolding with_time_of one_seen
returns-then-not-counts c = second _ (so_false refl c.if-not-counts.true) refl

pub returns : goal.returns
unfolding with_time_of one_seen ranged
returns c =
    first _ (so_true refl c.if-not-counts.false)
    (times_seen _ _ c.new_end-latest.ensures c.new_end-earliest.ensures c.newer.ensures c.newer-2.ensures)
