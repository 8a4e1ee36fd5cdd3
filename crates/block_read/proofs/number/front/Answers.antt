use Rattle.std.proofs.Common.{rules}
use Rattle.text.proofs.Prelude.{arith, refl}
use Rattle.block_read.proofs.Words.{front_least, front_below_0, front_above_9, front_next, front_done, front_is}
use Rattle.block_read.proofs.Words.{front_over}
use Rattle.block_read.proofs.number.front.Goals as goal

pub loop-i-init : goal.loop-i-init
loop-i-init c = (search rules, refl)

pub returns-then-b-lt48 : goal.returns-then-b-lt48
returns-then-b-lt48 c =
    let l = c.loop-i in
    front_is _ (front_below_0 _ _ l.i (search rules) l.invariant.1 (search rules)) (search rules)

pub returns-then-b-gt57 : goal.returns-then-b-gt57
returns-then-b-gt57 c =
    let l = c.loop-i in
    front_is _ (front_above_9 _ _ l.i (search rules) l.invariant.1 (search rules) (search rules)) (search rules)

pub returns-then-digit-value : goal.returns-then-digit-value
returns-then-digit-value c =
    let l = c.loop-i in
    front_over _
    (omega (
      arith,
      front_least c.args.text.now l.value l.i (search rules) l.invariant.1 (search rules) (search rules),
    ))

pub loop-i-preserved : goal.loop-i-preserved
loop-i-preserved c =
    let l = c.loop-i in
    (search rules, front_next _ _ l.i (search rules) l.invariant.1 (search rules) (search rules))

pub returns : goal.returns
returns c =
    let l = c.loop-i in
    front_is _ (front_done _ _ l.i (search rules) l.invariant.1) (search rules)
