use Rattle.text.proofs.Prelude.{yes≤, no≤}
use Rattle.field.proofs.Every.{every_fails, every_next, every_done}
use Rattle.field.proofs.Ascii.{every_ascii}
use Rattle.field.proofs.ascii_tail.Goals as goal

pub returns-then-b-gt127 : goal.returns-then-b-gt127
returns-then-b-gt127 c = every_fails every_ascii _ _ c.loop-b-test.true c.loop-b.invariant (no≤ c.if-b-gt127.true)

pub loop-b-preserved : goal.loop-b-preserved
loop-b-preserved c = every_next every_ascii _ _ c.loop-b-test.true c.loop-b.invariant (yes≤ c.if-b-gt127.false)

pub returns : goal.returns
returns c = every_done every_ascii _ _ c.loop-b-test.false c.loop-b.invariant
