use Rattle.text.specs.Prelude.{◌∨?◌, pick}
use Rattle.text.proofs.Prelude.{arith, refl}
use Rattle.igc_log.proofs.Ends.{has_here, has_later, all_told}
use Rattle.igc_log.proofs.has_lf.Goals as goal
use Rattle.igc_log.proofs.has_lf.Goals.{then-b-eq10, else-b-eq10}

pub loop-b-init : goal.loop-b-init
unfolding ◌∨?◌ pick
loop-b-init c = refl

pub loop-b-preserved : goal.loop-b-preserved
loop-b-preserved c =
    let l = c.loop-b in
    elim c.if-b-eq10.branch [
      | then-b-eq10 w ↦ rw w.any-is (has_here _ l.b-index l.any l.invariant (omega arith) w.if-b-eq10.true)
      | else-b-eq10 w ↦ rw w.any-is (has_later _ l.b-index l.any l.invariant (omega arith) w.if-b-eq10.false)
    ]

pub returns : goal.returns
returns c = all_told _ c.loop-b.b-index c.loop-b.any c.loop-b.invariant (omega arith)
