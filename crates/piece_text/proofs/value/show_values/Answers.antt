use Rattle.text.proofs.Prelude.{arith, take_all}
use Rattle.put.proofs.Writing.{wrote_nothing}
use Rattle.igc_log.specs.Fold.{texts}
use Rattle.piece_text.specs.Value.{asked_for}
use Rattle.piece_text.proofs.Rows.{in_turn}
use Rattle.piece_text.proofs.value.show_values.Goals as goal

pub loop-i-init : goal.loop-i-init
unfolding texts
loop-i-init c = wrote_nothing _ _ (omega arith) (omega arith)

pub loop-i-preserved : goal.loop-i-preserved
loop-i-preserved c =
    in_turn _ (asked_for c.args.held c.args.names.now) c.loop-i.i c.asked_at-name.ensures
    c.loop-i.invariant c.show_value-end.ensures

pub returns : goal.returns
returns c =
    rw (take_all c.loop-i.i (asked_for c.args.held c.args.names.now) (omega arith)) at c.loop-i.invariant
