use Rattle.text.specs.Prelude.{◌≡◌, length}
use Rattle.text.proofs.Prelude.{rules, arith, refl, sym, ap, ◌∙◌}
use Rattle.report.specs.Counts.{numbers}
use Rattle.report.specs.Report.{is_full_of}
use Rattle.records.specs.Record.{read_line_of}
use Rattle.held.specs.Tables.{tables_after}
use Rattle.walk.specs.Readings.{at_end_of}
use Rattle.reported.specs.Glance.{glance_of}
use Rattle.reported.proofs.Ending.{from_walk, past_end, last_number, count_full, no_table}
use Rattle.reported.proofs.Ending.{counts_fit, line, nearer}
use Rattle.reported.proofs.Glances.{number_small}
use Rattle.reported.proofs.Setting.{table_seen}
use Rattle.reported.proofs.end.walk_to_end.Goals as goal
use Rattle.reported.proofs.end.walk_to_end.Goals.{then-sets_table, else-sets_table}

pub loop-place-init : goal.loop-place-init
loop-place-init c =
    let wide : length c.args.walk.report.answers ≡ numbers = search rules in
    record { wide = wide; full_is = c.is_full-full.ensures ∙ ap is_full_of (sym c.of-figures.ensures); same = refl }

-- a count is at its largest
pub returns-then-full : goal.returns-then-full
returns-then-full c =
    c.walk_from.ensures ∙ count_full c.loop-place.invariant c.if-full.true
    ∙ ap (at_end_of _) (from_walk _ _ c.of-figures.ensures)

-- the number is
pub returns-then-number-ge18446744073709551615 : goal.returns-then-number-ge18446744073709551615
returns-then-number-ge18446744073709551615 c =
    c.walk_from-then-number-ge18446744073709551615.ensures
    ∙ last_number c.loop-place.invariant c.if-number-ge18446744073709551615.true
    ∙ ap (at_end_of _) (from_walk _ _ c.of-figures.ensures)

-- the log has ended
pub returns : goal.returns
returns c =
    c.walk_from-2.ensures ∙ past_end c.loop-place.invariant c.loop-place-test.false
    ∙ ap (at_end_of _) (from_walk _ _ c.of-figures.ensures)

-- what was seen of the line
pub bounds-answers-answer : goal.bounds-answers-answer
bounds-answers-answer c =
    let is = sym c.sets_table.ensures in
    let seen : c.if-sets_table.seen ≡ glance_of (read_line_of c.view-line.result.now) =
    elim c.if-sets_table.branch [
      | then-sets_table w ↦
          w.seen-is ∙ w.of_table-seen.ensures ∙ table_seen _ w.parse-read.ensures (is ∙ w.if-sets_table.true)
      | else-sets_table w ↦ w.seen-is ∙ w.look-seen.ensures
    ] in
    number_small _ seen

pub overflow_add-count : goal.overflow_add-count
overflow_add-count c =
    let fits = counts_fit c.loop-place.invariant c.loop-place-test.true c.if-number-ge18446744073709551615.false
    c.if-full.false c.if-sets_table.seen.number c.if-sets_table.seen.fix in
    record { fits = omega (arith, fits.2) }

pub bounds-answers-answer-in-loop-place : goal.bounds-answers-answer-in-loop-place
bounds-answers-answer-in-loop-place c =
    let is = sym c.sets_table.ensures in
    let seen : c.if-sets_table.seen ≡ glance_of (read_line_of c.view-line.result.now) =
    elim c.if-sets_table.branch [
      | then-sets_table w ↦
          w.seen-is ∙ w.of_table-seen.ensures ∙ table_seen _ w.parse-read.ensures (is ∙ w.if-sets_table.true)
      | else-sets_table w ↦ w.seen-is ∙ w.look-seen.ensures
    ] in
    number_small _ seen

pub after-figures-requires : goal.after-figures-requires
after-figures-requires c =
    let fits = counts_fit c.loop-place.invariant c.loop-place-test.true c.if-number-ge18446744073709551615.false
    c.if-full.false c.if-sets_table.seen.number c.if-sets_table.seen.fix in
    (fits.0, fits.1)

pub loop-place-smaller : goal.loop-place-smaller
loop-place-smaller c =
    nearer c.loop-place.invariant c.loop-place-test.true c.if-number-ge18446744073709551615.false c.if-full.false
    c.cut_at-cut.ensures

-- a line more
pub loop-place-preserved : goal.loop-place-preserved
loop-place-preserved c =
    let is = sym c.sets_table.ensures in
    let seen : c.if-sets_table.seen ≡ glance_of (read_line_of c.view-line.result.now) =
    elim c.if-sets_table.branch [
      | then-sets_table w ↦
          w.seen-is ∙ w.of_table-seen.ensures ∙ table_seen _ w.parse-read.ensures (is ∙ w.if-sets_table.true)
      | else-sets_table w ↦ w.seen-is ∙ w.look-seen.ensures
    ] in
    let held : c.if-sets_table.held ≡ tables_after c.loop-place.held c.view-line.result.now =
    elim c.if-sets_table.branch [
      | then-sets_table w ↦ w.held-is ∙ w.with_table-held.ensures
      | else-sets_table w ↦ w.held-is ∙ no_table _ _ (is ∙ w.if-sets_table.false)
    ] in
    line c.loop-place.invariant c.loop-place-test.true c.if-number-ge18446744073709551615.false c.if-full.false
    c.cut_at-cut.ensures c.view-line.ensures.bytes seen refl (c.after-figures.ensures _)
    c.is_full-full-in-loop-place.ensures held
