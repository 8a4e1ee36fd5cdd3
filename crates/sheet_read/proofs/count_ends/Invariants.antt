use Rattle.text.specs.Prelude.{◌+◌, ◌≤◌, ◌≡◌, drop}
use Rattle.sheet_read.specs.Sheet.{ends}
use Rattle.sheet_read.proofs.count_ends.Given as goal

-- those before this byte are counted
abbrev pub invariant-loop-b : goal.invariant-loop-b
invariant-loop-b l = (l.count ≤ l.b-index) × (l.count + ends (drop l.b-index l.text) ≡ ends l.text)
