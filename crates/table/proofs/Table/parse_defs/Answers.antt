use Rattle.text.specs.Prelude.{◌≡◌, ◌+◌, ◌*◌, no}
use Rattle.text.proofs.Prelude.{rules, arith, came, off, counted, ◌∙◌}
use Rattle.table.specs.Table.{table_of, table_read}
use Rattle.table.proofs.Defs.{turn_start, turn_refuses, turn_next, turn_done}
use Rattle.table.proofs.Table.parse_defs.Goals as goal

pub loop-i-init : goal.loop-i-init
unfolding table_of
loop-i-init c = rw c.new-table.ensures (turn_start _ _)

pub returns-in_err-def : goal.returns-in_err-def
unfolding table_read
returns-in_err-def c =
    let left : c.from_residual.result ≡ no c.in_err-def.field-0.0 = search rules in
    let def = came c.in_err-def.was (counted (3 + c.loop-i.i * 7) c.counted_from.ensures c.parse.ensures) in
    left ∙ off _ (turn_refuses _ _ _ _ c.loop-i.invariant c.loop-i-test.true def)

pub loop-i-preserved : goal.loop-i-preserved
loop-i-preserved c =
    let def = came c.in_ok-def.was (counted (3 + c.loop-i.i * 7) c.counted_from.ensures c.parse.ensures) in
    turn_next _ _ _ _ c.loop-i.invariant c.loop-i-test.true (omega arith) def

pub returns : goal.returns
returns c = turn_done _ _ _ _ c.loop-i.invariant (omega arith)
