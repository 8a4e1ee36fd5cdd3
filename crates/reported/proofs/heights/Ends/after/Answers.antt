use Rattle.text.proofs.Prelude.{rules, refl, first, second, so_true, so_false}
use mir.Syntax.{w16}
use mir.Val.{SFits}
use mir.Facts.{to_z-of_z}
use Rattle.reported.specs.Flat.{ranged, one_seen}
use Rattle.reported.proofs.Keeping.{height_seen}
use Rattle.reported.proofs.heights.Ends.after.Goals as goal

pub returns-then-not-counts : goal.returns-then-not-counts
unfolding one_seen
returns-then-not-counts g c = second _ (so_false refl c.if-not-counts.true) refl

pub returns : goal.returns
unfolding one_seen ranged
returns g c =
    let high : SFits w16 c.metres.result = search rules in
    let height : SFits w16 c.metres-2.result = search rules in
    let height' : SFits w16 c.metres-3.result = search rules in
    let low : SFits w16 c.metres-4.result = search rules in
    first _ (so_true refl c.if-not-counts.false)
    (height_seen g.H.Height.metres_of c.args.self c.args.place c.args.height
    (rw (to_z-of_z high, to_z-of_z height, c.metres.ensures, c.metres-2.ensures) at c.new_end-highest.ensures)
    (rw (to_z-of_z height', to_z-of_z low, c.metres-3.ensures, c.metres-4.ensures) at c.new_end-lowest.ensures)
    c.newer.ensures c.newer-2.ensures c.newer-3.ensures c.newer-4.ensures)
