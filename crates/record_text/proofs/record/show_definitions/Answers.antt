use Rattle.text.specs.Prelude.{◌<◌, ◌≡◌, length}
use Rattle.text.proofs.Prelude.{rules, arith, take_all}
use Rattle.put.proofs.Writing.{wrote_nothing}
use Rattle.igc_log.specs.Fold.{texts}
use Rattle.table.specs.Table.{defs_of}
use Rattle.table.proofs.Defs.{long_under}
use Rattle.piece_text.proofs.Rows.{in_turn}
use Rattle.piece_text.proofs.Names.{count_defs, definition_at}
use Rattle.record_text.proofs.record.show_definitions.Goals as goal

pub loop-i-init : goal.loop-i-init
unfolding texts
loop-i-init c = wrote_nothing _ _ (omega arith) (omega arith)

pub bounds-table-i : goal.bounds-table-i
bounds-table-i c =
    let t = c.args.table in
    let long : length t.defs ≡ 99 = search (rules, long_under) in
    omega (arith, count_defs t)

pub offset_bounds-table-i : goal.offset_bounds-table-i
offset_bounds-table-i c =
    let t = c.args.table in
    let long : length t.defs ≡ 99 = search (rules, long_under) in
    let inside : c.loop-i.i < 99 = omega (arith, count_defs t) in
    search rules

pub loop-i-preserved : goal.loop-i-preserved
loop-i-preserved c =
    let t = c.args.table in
    in_turn _ (defs_of t) c.loop-i.i (definition_at t c.loop-i.i (omega arith)) c.loop-i.invariant
    c.show_definition-next.ensures

pub returns : goal.returns
returns c = rw (take_all c.loop-i.i (defs_of c.args.table) (omega arith)) at c.loop-i.invariant
