-- The steps of a walk as a loop that carries its report as plain numbers.
use Rattle.text.specs.Prelude.{ℕ, ◌+◌, ◌-◌, ◌≤◌, ◌<◌, ◌≡◌, Bool, true, false, List, length, get_or, set, pick, ◌≤?◌, ◌∨?◌}
use Rattle.text.specs.Prelude.{largest}
use Rattle.text.proofs.Prelude.{arith, sym, ap, ◌∙◌, neither}
use lib.ListN.{length-set}
use Rattle.part.specs.Part.{part_bytes, bytes_of}
use Rattle.records.specs.Record.{read_line_of}
use Rattle.igc_log.specs.Line.{cut_at}
use Rattle.igc_log.specs.declared.Cut.{Cut}
use Rattle.igc_log.proofs.Cuts.{next_gt, cut_viewed}
use Rattle.held.specs.Tables.{tables_after}
use Rattle.held.specs.declared.tables.Tables.{Tables}
use Rattle.held.proofs.Letters.{other_line}
use Rattle.cursor.specs.Cursor.{past}
use Rattle.report.specs.Counts.{numbers}
use Rattle.report.specs.Report.{taken_by, is_full_of, figures_in, report_made, report_after}
use Rattle.report.proofs.Answers.{report_undone, figures_made}
use Rattle.report.proofs.Full.{lines_below, fixes_below, answers_below, no_answer_full, full_set}
use Rattle.walk.specs.Walk.{step_of, is_done}
use Rattle.walk.specs.Readings.{at_end_of}
use Rattle.walk.specs.declared.Walk.{Walk}
use Rattle.walk.proofs.Laws.{step_on}
use Rattle.walk.proofs.Turns.{one_at_most}
use Rattle.walk.proofs.Steps.{past_done, number_done, full_done, not_done, end_done, end_step}
use Rattle.reported.specs.Glance.{glance_of}
use Rattle.reported.specs.Flat.{flat_in, one_more, full_by, glanced}
use Rattle.reported.specs.End.{walk_from_of, sets_table_of}
use Rattle.reported.specs.declared.{flat.Flat.Flat, glance.Glance.Glance}
use Rattle.reported.proofs.Glances.{glanced_taken, number_small}

-- a line of another letter sets no table
pub no_table : (held : Tables) (l : List ℕ) → sets_table_of l ≡ false → held ≡ tables_after held l
unfolding sets_table_of
no_table held l e = other_line held l (neither e).0 (neither e).1

-- the walk that a report as plain numbers was made of
pub from_walk : (w : Walk) (f : Flat) → flat_in w.report.answers f ≡ figures_in w.report →
    walk_from_of w.held w.report.answers f w.at.place w.at.number ≡ w
unfolding walk_from_of
from_walk w f e = rw (ap report_made e ∙ report_undone w.report)

-- the loop stands there, with `full` told of its counts
pub record Standing (s : List ℕ) (w₀ : Walk) (held : Tables) (answers : List ℕ) (f : Flat) (full : Bool)
    (place number : ℕ) : Type 0 where
  pub wide : length answers ≡ numbers
  pub full_is : full ≡ is_full_of (flat_in answers f)
  pub same : at_end_of s w₀ ≡ at_end_of s (walk_from_of held answers f place number)

module _ {s : List ℕ} {w₀ : Walk} {held : Tables} {answers : List ℕ} {f : Flat} {full : Bool} {place number : ℕ}
    (here : Standing s w₀ held answers f full place number) where
  -- the walk that it stands for
  abbrev w : Walk
  w = walk_from_of held answers f place number

  -- its report
  figures_are : figures_in w.report ≡ flat_in answers f
  unfolding walk_from_of
  figures_are = figures_made (flat_in answers f)

  -- where it is done it is at the end
  at_its_end : is_done s w ≡ true → w ≡ at_end_of s w₀
  at_its_end e = sym (here.same ∙ end_done s w e)

  pub past_end : length s ≤ place → w ≡ at_end_of s w₀
  unfolding walk_from_of
  past_end h = at_its_end (past_done s w h)

  pub last_number : largest ≤ number → w ≡ at_end_of s w₀
  unfolding walk_from_of
  last_number h = at_its_end (number_done s w h)

  pub count_full : full ≡ true → w ≡ at_end_of s w₀
  count_full h = at_its_end (full_done s w (ap is_full_of figures_are ∙ sym here.full_is ∙ h))

  module _ (p : place < length s) (n : number < largest) (spare : full ≡ false) where
    -- no count is at its largest
    pub room : is_full_of (flat_in answers f) ≡ false
    room = sym here.full_is ∙ spare

    -- what the step to the line l leaves
    stepped : {l : List ℕ} → l ≡ bytes_of (cut_at place s).line s → (step_of s w).walk ≡ record {
      held = tables_after held l;
      report = report_made (taken_by (flat_in answers f) place (read_line_of l));
      at = record { place = (cut_at place s).next; number = number + 1 };
    }
    unfolding walk_from_of past report_after
    stepped e = rw (step_on s w p n (ap is_full_of figures_are ∙ room), figures_are, e)

    -- with one answer more, that count alone can be at its largest
    told_full : (i count : ℕ) (f' : Flat) → i < length answers →
        full_by f'.lines f'.fixes count ≡ is_full_of (flat_in (set answers i count) f')
    unfolding full_by is_full_of
    told_full i count f' inside =
        ap (λ t. (largest ≤? f'.lines) ∨? (largest ≤? f'.fixes) ∨? t)
        (full_set answers i count inside (no_answer_full (flat_in answers f) room))

    -- so its counts have room for the line
    pub counts_fit : (i : ℕ) (fix : Bool) →
        (f.lines < largest) × (f.fixes + pick fix 1 0 ≤ largest) × (get_or answers i 0 < largest)
    counts_fit i fix = (
      lines_below (flat_in answers f) room,
      omega (arith, fixes_below (flat_in answers f) room, one_at_most fix),
      answers_below (flat_in answers f) room i,
    )

    module _ {cut : Cut} (is : cut ≡ cut_at place s) where
      -- the plain numbers are those of the step
      walk_is : (l : List ℕ) (f' : Flat) {g : Glance} {count : ℕ} {held' : Tables} →
          g ≡ glance_of (read_line_of l) → count ≡ get_or answers g.number 0 + 1 →
          flat_in (one_more answers g.number) f' ≡ glanced (flat_in answers f) place g → held' ≡ tables_after held l →
          record {
            held = tables_after held l;
            report = report_made (taken_by (flat_in answers f) place (read_line_of l));
            at = record { place = (cut_at place s).next; number = number + 1 };
          } ≡ walk_from_of held' (set answers g.number count) f' cut.next (number + 1)
      unfolding one_more walk_from_of
      walk_is l f' seen one after h =
          let taken = glanced_taken (flat_in answers f) place (read_line_of l) room here.wide in
          let same = sym taken ∙ sym (rw seen at after) in
          rw (same, h, is, one, seen)

      -- a line more
      pub line : {l : List ℕ} {g : Glance} {count : ℕ} {f' : Flat} {held' : Tables} {full' : Bool} →
          l ≡ part_bytes cut.line s → g ≡ glance_of (read_line_of l) → count ≡ get_or answers g.number 0 + 1 →
          flat_in (one_more answers g.number) f' ≡ glanced (flat_in answers f) place g →
          full' ≡ full_by f'.lines f'.fixes count → held' ≡ tables_after held l →
          Standing s w₀ held' (set answers g.number count) f' full' cut.next (number + 1)
      unfolding walk_from_of
      line {l} {g} {count} {f'} {held'} {full'} v seen one after told h =
          let cutting : l ≡ bytes_of (cut_at place s).line s = v ∙ rw is (cut_viewed s place (omega arith)) in
          record {
            wide = length-set answers g.number count ∙ here.wide;
            full_is = told ∙ told_full g.number count f' (omega (arith, here.wide, number_small l seen));
            same = here.same ∙ end_step s w (not_done s w p n (ap is_full_of figures_are ∙ room))
                ∙ ap (at_end_of s) (stepped cutting ∙ walk_is l f' seen one after h);
          }

      pub nearer : length s - cut.next < length s - place
      nearer = rw is (omega (arith, next_gt s place p))
