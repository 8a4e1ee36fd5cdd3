use Rattle.text.specs.Prelude.{◌-◌}
use Rattle.text.proofs.Prelude.{rules, arith}
use Rattle.satellites.proofs.Sets.{shifted, with_low, with_high, with_none}
use Rattle.satellites.proofs.Satellites.with.Goals as goal

pub returns-then-n-lt64 : goal.returns-then-n-lt64
returns-then-n-lt64 c = rw (shifted c.args.n c.if-n-lt64.true)
    (with_low _ (search rules) (search rules) _ c.if-n-lt64.true)

pub returns-then-n-lt128 : goal.returns-then-n-lt128
returns-then-n-lt128 c =
    let n = c.args.n in
    rw (shifted (n - 64) (omega arith))
    (with_high _ (search rules) (search rules) n (n - 64) (omega arith) (omega arith))

pub returns : goal.returns
returns c = with_none _ (search rules) (search rules) _ c.if-n-lt128.false
