use Rattle.text.specs.Prelude.{◌*◌, ◌≡◌, drop}
use Rattle.satellites.specs.Satellites.{numbers, set_of}
use Rattle.satellites.proofs.Reading.{adding}
use Rattle.satellites.proofs.Satellites.parse.Given as goal

-- k pairs were read, and their numbers with those that are left make the whole
abbrev pub invariant-loop-k : goal.invariant-loop-k
invariant-loop-k l = adding l.heard (numbers (drop (2 * l.k) l.text)) ≡ set_of (numbers l.text)
