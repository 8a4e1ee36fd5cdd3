use Rattle.text.specs.Prelude.{◌-◌}
use Rattle.text.proofs.Prelude.{rules, arith, sym, ◌∙◌}
use Rattle.satellites.proofs.Words.{bit_read}
use Rattle.satellites.proofs.Sets.{has_low, has_high, has_past}
use Rattle.satellites.proofs.Satellites.has.Goals as goal

pub returns-then-n-lt64 : goal.returns-then-n-lt64
returns-then-n-lt64 c = bit_read _ _ ∙ sym (has_low _ _ c.if-n-lt64.true)

pub returns-then-n-lt128 : goal.returns-then-n-lt128
returns-then-n-lt128 c = let n = c.args.n in bit_read (n - 64) _ ∙ sym (has_high n (n - 64) _ (omega arith))

pub returns : goal.returns
returns c = sym (has_past _ _ (search rules) c.if-n-lt128.false)
