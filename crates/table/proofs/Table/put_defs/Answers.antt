use Rattle.text.specs.Prelude.{◌≡◌, length}
use Rattle.text.proofs.Prelude.{arith, rules, take_all}
use Rattle.put.proofs.Writing.{wrote_nothing}
use Rattle.table.specs.Table.{defs_text, defs_of}
use Rattle.table.proofs.Defs.{defs_then, defs_counted, long_under}
use Rattle.table.proofs.Table.put_defs.Goals as goal

pub loop-def-init : goal.loop-def-init
unfolding defs_text
loop-def-init c = wrote_nothing _ _ (omega arith) (omega arith)

pub loop-def-preserved : goal.loop-def-preserved
loop-def-preserved c = defs_then _ c.loop-def.def-index _ c.loop-def-test.true c.loop-def.invariant c.put-next.ensures

pub returns : goal.returns
unfolding defs_of
returns c =
    let t = c.args.self in
    let long : length t.defs ≡ 99 = search (rules, long_under) in
    rw (take_all _ _ c.loop-def-test.false, defs_counted t.defs c.min-n.result t.count (omega arith))
    at c.loop-def.invariant
