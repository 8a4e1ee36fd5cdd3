use Rattle.text.proofs.Prelude.{rules}
use mir.Syntax.{w16}
use mir.Val.{SFits}
use Rattle.bench_loops.specs.Timed.{summed, of_range}
use Rattle.bench_loops.proofs.Heights.{above_is}
use Rattle.bench_loops.proofs.of_heights.Goals as goal

pub returns-in-None : goal.returns-in-None
unfolding of_range
returns-in-None g c = rw c.in-None.is

pub returns-in-Some : goal.returns-in-Some
unfolding of_range summed
returns-in-Some g c =
    let high : SFits w16 c.metres.result = search rules in
    let low : SFits w16 c.metres-in-Some.result = search rules in
    rw c.in-Some.is
    (rw (
      (above_is high c.above.ensures).0,
      (above_is low c.above-in-Some.ensures).0,
      c.metres.ensures,
      c.metres-in-Some.ensures,
    ) at c.wrapping_add_u64.ensures.value)
