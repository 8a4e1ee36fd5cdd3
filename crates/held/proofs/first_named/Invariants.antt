use Rattle.text.specs.Prelude.{◌≡◌, drop}
use Rattle.held.specs.Held.{first_named_of}
use Rattle.held.proofs.first_named.Given as goal

-- what is left, from here on, is the whole
abbrev pub invariant-loop-def : goal.invariant-loop-def
invariant-loop-def l = first_named_of l.name (drop l.def-index l.def-items) ≡ first_named_of l.name l.def-items
