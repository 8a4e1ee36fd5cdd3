use Rattle.text.specs.Prelude.{◌+◌, ◌-◌, ◌≡◌}
use Rattle.text.proofs.Prelude.{arith, ◌∙◌}
use Rattle.window.proofs.Wholes.{none_yet, none_at_all, last_here, none_here}
use Rattle.window.proofs.whole_length.Goals as goal

pub loop-i-init : goal.loop-i-init
loop-i-init c = none_yet _

pub returns-then-piece-i-eq10 : goal.returns-then-piece-i-eq10
returns-then-piece-i-eq10 c =
    let here : c.loop-i.i - 1 + 1 ≡ c.loop-i.i = omega arith in
    here ∙ last_here c.loop-i.invariant c.loop-i-test.true c.if-piece-i-eq10.true

pub loop-i-preserved : goal.loop-i-preserved
loop-i-preserved c = none_here c.loop-i.invariant c.loop-i-test.true c.if-piece-i-eq10.false

pub returns : goal.returns
returns c = none_at_all c.loop-i.invariant c.loop-i-test.false
