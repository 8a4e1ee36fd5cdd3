use Rattle.text.specs.Prelude.{◌≡◌, length}
use Rattle.text.proofs.Prelude.{rules, arith, refl, sym, ap, ◌∙◌}
use lib.ListN.{length-set}
use Rattle.report.specs.Counts.{numbers}
use Rattle.reported.specs.Reported.{figures_on}
use Rattle.reported.specs.Flat.{one_more}
use Rattle.reported.proofs.Glances.{room_says, taken, kept, number_small}
use Rattle.reported.proofs.Pieces.{at_start, at_end, line, near}
use Rattle.reported.proofs.report_from.Goals as goal

pub loop-at-init : goal.loop-at-init
loop-at-init c =
    let wide : length c.args.before.answers ≡ numbers = search rules in
    (wide, at_start)

pub bounds-answers-number : goal.bounds-answers-number
bounds-answers-number c = number_small _ c.look-seen.ensures

pub overflow_add-answers : goal.overflow_add-answers
overflow_add-answers c =
    let room = room_says _ _ _ _ (sym c.has_room.ensures ∙ c.if-has_room.true) in
    record { fits = omega (arith, room.1) }

pub bounds-answers-number-then-has_room : goal.bounds-answers-number-then-has_room
bounds-answers-number-then-has_room c = number_small _ c.look-seen.ensures

pub after-figures-requires : goal.after-figures-requires
after-figures-requires c =
    let room = room_says _ _ _ _ (sym c.has_room.ensures ∙ c.if-has_room.true) in
    (omega (arith, room.0), room.2)

pub loop-at-smaller-then-has_room : goal.loop-at-smaller-then-has_room
loop-at-smaller-then-has_room c = near c.loop-at.invariant.1 c.loop-at-test.true c.cut_at-cut.ensures

pub loop-at-preserved-then-has_room : goal.loop-at-preserved-then-has_room
unfolding one_more
loop-at-preserved-then-has_room c = (
  length-set c.loop-at.answers _ _ ∙ c.loop-at.invariant.0,
  line c.loop-at.invariant.1 c.loop-at-test.true c.cut_at-cut.ensures c.view.ensures.bytes
      (c.after-figures.ensures _
      ∙ taken _ _ _ c.look-seen.ensures refl c.has_room.ensures c.if-has_room.true c.loop-at.invariant.0),
)

pub loop-at-smaller : goal.loop-at-smaller
loop-at-smaller c = near c.loop-at.invariant.1 c.loop-at-test.true c.cut_at-cut.ensures

pub loop-at-preserved : goal.loop-at-preserved
loop-at-preserved c = (
  c.loop-at.invariant.0,
  line c.loop-at.invariant.1 c.loop-at-test.true c.cut_at-cut.ensures c.view.ensures.bytes
      (kept _ _ _ c.look-seen.ensures refl c.has_room.ensures c.if-has_room.false),
)

pub returns : goal.returns
returns c =
    c.report.ensures ∙ at_end c.loop-at.invariant.1 c.loop-at-test.false
    ∙ ap (λ f. figures_on f c.args.place (c.args.piece.now)) c.of-figures.ensures
