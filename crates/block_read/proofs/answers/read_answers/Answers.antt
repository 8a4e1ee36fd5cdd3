use Rattle.std.proofs.Common.{rules, ◌≡◌}
use Rattle.text.proofs.Prelude.{arith, take_all}
use Rattle.block_read.specs.Block.{read_answers_of}
use Rattle.block_read.proofs.Coming.{done}
use Rattle.block_read.proofs.Counts.{in_turn}
use Rattle.block_read.proofs.answers.read_answers.Goals as goal

pub loop-i-init : goal.loop-i-init
unfolding read_answers_of
loop-i-init c = (search rules, done (search rules))

pub loop-i-preserved : goal.loop-i-preserved
loop-i-preserved c =
    (search rules, in_turn c.loop-i.i _ (omega (arith, c.loop-i.invariant.0)) c.loop-i.invariant.1 c.read_answer-row.ensures)

pub returns : goal.returns
returns c =
    let e : c.loop-i.i ≡ 13 = omega arith in
    rw (take_all 13 c.loop-i.counts (omega (arith, c.loop-i.invariant.0))) at (rw e at c.loop-i.invariant.1)
