use Rattle.text.proofs.Prelude.{arith, so_true, so_false}
use Rattle.walk.proofs.Turns.{at_start, at_end, few}
use Rattle.claim_line.proofs.Asking.{line, near}
use Rattle.claim.specs.declared.Sofar.{Sofar}
use Rattle.claim.proofs.Stepping.{next_judged, lines_most, stopped}
use Rattle.claim.proofs.claim_from.Goals as goal

pub loop-at-init : goal.loop-at-init
loop-at-init c = at_start

pub returns-then-not-is_yes : goal.returns-then-not-is_yes
returns-then-not-is_yes c = stopped c.loop-at.invariant (so_false c.is_yes.ensures c.if-not-is_yes.true)

pub after-sofar-requires : goal.after-sofar-requires
after-sofar-requires c =
    let most = few (λ (k : Sofar). k.lines) lines_most c.loop-at.invariant in omega arith

pub loop-at-smaller : goal.loop-at-smaller
loop-at-smaller c = near c.loop-at-test.true c.loop-at.invariant c.ask_at-here.ensures

pub loop-at-preserved : goal.loop-at-preserved
loop-at-preserved c =
    line c.loop-at-test.true c.loop-at.invariant c.ask_at-here.ensures
    (λ x h. next_judged _ x (so_true c.is_yes.ensures c.if-not-is_yes.false) c.after-sofar.ensures h)

pub returns : goal.returns
returns c = at_end c.loop-at-test.false c.loop-at.invariant
