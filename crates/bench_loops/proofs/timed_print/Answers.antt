use Rattle.text.proofs.Prelude.{rules, refl, sym}
use Rattle.walk.proofs.Turns.{at_start, at_end, line, near}
use Rattle.bench_loops.specs.Timed.{summed, print_step, printed_out}
use Rattle.bench_loops.proofs.timed_print.Goals as goal

pub loop-at-init : goal.loop-at-init
loop-at-init c = (at_start, refl)

pub loop-at-smaller : goal.loop-at-smaller
loop-at-smaller c = near c.loop-at-test.true c.loop-at.invariant.0 c.read_at-got.ensures

pub loop-at-preserved : goal.loop-at-preserved
unfolding print_step summed
loop-at-preserved c =
    let p = rw c.view-line.ensures.bytes at c.print_line.ensures in (
      line c.loop-at-test.true c.loop-at.invariant.0 c.read_at-got.ensures
          (λ n h. rw (c.wrapping_add_u64-sum.ensures.value, p.answer, p.left)),
      search rules,
    )

pub returns : goal.returns
unfolding printed_out
returns c = sym (at_end c.loop-at-test.false c.loop-at.invariant.0)
