use Rattle.std.proofs.Common.{◌≡◌, map, ◌++◌, take, drop}
use Rattle.files.specs.Terminal.{visible}
use Rattle.files.proofs.terminal.make_visible.Given as goal

-- the bytes before the place are shown, and those behind are as they were
abbrev pub invariant-loop-b : goal.invariant-loop-b
invariant-loop-b l = l.text ≡ map visible (take l.b-index l.initial.text) ++ drop l.b-index l.initial.text
