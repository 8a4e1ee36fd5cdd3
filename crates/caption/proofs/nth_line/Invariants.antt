use Rattle.text.specs.Prelude.{◌+◌, ◌-◌, ◌≡◌, drop}
use Rattle.igc_log.specs.Log.{chunks}
use Rattle.caption.specs.Caption.{nth}
use Rattle.caption.proofs.nth_line.Given as goal

-- the line that is left to find, from here, is the one that was asked for
abbrev pub invariant-loop-k : goal.invariant-loop-k
invariant-loop-k l = nth l.at (l.n + 1 - l.k) (chunks (drop l.at l.text)) ≡ nth 0 l.n (chunks l.text)
