use Rattle.std.proofs.Common.{◌<◌, get_or, length, sym, arith}
use Rattle.std.proofs.lemmas.Grind.{get_or_default_zero}
use Rattle.std.proofs.lemmas.List.Edits.{map_over_more}
use Rattle.files.specs.Terminal.{visible}
use Rattle.files.proofs.terminal.make_visible.Goals as goal

pub loop-b-preserved : goal.loop-b-preserved
loop-b-preserved c =
    let text = c.loop-b.text in
    let i = c.loop-b.b-index in
    let inside : i < length text = omega arith in
    let same = sym (get_or_default_zero text i (get_or text i 0) inside) in
    let e = c.visible.ensures in
    rw e (map_over_more visible _ _ i _ c.loop-b-test.true c.loop-b.invariant same)
