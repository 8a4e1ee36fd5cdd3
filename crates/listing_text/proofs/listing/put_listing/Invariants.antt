use Rattle.text.specs.Prelude.{◌-◌, length}
use Rattle.listing_text.proofs.Telling.{Telling}
use Rattle.listing_text.proofs.listing.put_listing.Given as goal

-- the lines before the place are counted and written
abbrev pub invariant-loop-place : goal.invariant-loop-place
invariant-loop-place l = Telling l.log l.initial.buf l.at l.buf l.trailer l.end l.place

abbrev pub decreases-loop-place : goal.decreases-loop-place
decreases-loop-place l = length l.log - l.place
