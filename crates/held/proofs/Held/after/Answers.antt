use Rattle.text.proofs.Prelude.{refl, first, second, so_true, so_false}
use Rattle.held.specs.Held.{held_after}
use Rattle.held.proofs.Held.after.Goals as goal

pub returns-then-begins : goal.returns-then-begins
unfolding held_after
returns-then-begins c = first _ (so_true c.begins.ensures c.if-begins.true) c.set_by.ensures

pub returns : goal.returns
unfolding held_after
returns c = second _ (so_false c.begins.ensures c.if-begins.false) refl
