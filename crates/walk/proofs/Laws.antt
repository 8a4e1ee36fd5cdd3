-- Laws of a step.
use Rattle.text.specs.Prelude.{ℕ, ◌+◌, ◌≤◌, ◌<◌, ◌≡◌, Bool, true, false, List, length, Option, Res, pick, ◌≤?◌, ◌∧?◌}
use Rattle.text.specs.Prelude.{largest}
use Rattle.text.proofs.Prelude.{arith, refl, sym, ap, ◌∙◌, first, second, yes≤, is≤, both, and}
use Rattle.part.specs.Part.{bytes_of, find_part, shown}
use Rattle.part.proofs.Parts.{shown_found}
use Rattle.records.specs.Record.{read_line_of}
use Rattle.records.specs.declared.{Record.Record}
use Rattle.igc_log.specs.Line.{cut_at}
use Rattle.igc_log.specs.declared.Cut.{Cut}
use Rattle.igc_log.proofs.Cuts.{cut_inside}
use Rattle.held.specs.Tables.{tables_after}
use Rattle.held.specs.declared.tables.Tables.{Tables}
use Rattle.report.specs.Report.{taken_by, is_full_of, figures_in, report_after}
use Rattle.report.specs.declared.Report.{Report}
use Rattle.report.proofs.Answers.{report_is}
use Rattle.cursor.specs.Cursor.{past, next_of}
use Rattle.walk.specs.Walk.{next_in, step_to, step_of}
use Rattle.cursor.specs.declared.Cursor.{Cursor}
use Rattle.walk.specs.declared.{Walk.Walk, Step.Step}
use Rattle.text.specs.Prelude.{Some, None}

module _ (s : List ℕ) where
  -- the line of a cut inside the log, as it is shown
  pub cut_shown : (p : ℕ) → p ≤ length s → shown (find_part (cut_at p s).line s) ≡ (cut_at p s).line
  cut_shown p h = shown_found (sym (cut_inside s p h))

  -- a line that comes next is the one that the cut finds at the place, which lies inside the log
  pub next_is : (c : Cursor) (cut : Cut) (after : Cursor) → ◌≡◌ {A = Option (Cut × Cursor)} (Some (cut, after)) (next_of s c) →
      (cut ≡ cut_at c.place s) × (c.place ≤ length s)
  unfolding next_of pick
  next_is c cut after e = by ((c.place + 1 ≤? length s) ∧? (c.number + 1 ≤? largest)) refl e
    where
      by : (t : Bool) → ((c.place + 1 ≤? length s) ∧? (c.number + 1 ≤? largest)) ≡ t
          → ◌≡◌ {A = Option (Cut × Cursor)} (Some (cut, after)) (pick t (Some (cut_at c.place s, past c (cut_at c.place s))) None)
          → (cut ≡ cut_at c.place s) × (c.place ≤ length s)
      by true h e =
          let q : ◌≡◌ {A = Cut × Cursor} (cut, after) (cut_at c.place s, past c (cut_at c.place s)) = cc in
          (ap (λ (x : Cut × Cursor). x.0) q, omega (arith, is≤ (both h).0))
      by false h e = let z : ◌≡◌ {A = ℕ} 0 1 = cc in absurd (omega arith)

  -- inside the log and below the largest number a line comes next
  pub next_on : (c : Cursor) → c.place < length s → c.number < largest →
      ◌≡◌ {A = Option (Cut × Cursor)} (next_of s c) (Some (cut_at c.place s, past c (cut_at c.place s)))
  unfolding next_of
  next_on c h n = sym (first _ (and (yes≤ (omega arith)) (yes≤ (omega arith))) refl)

  -- and a step reads it
  pub step_on : (w : Walk) → w.at.place < length s → w.at.number < largest
      → is_full_of (figures_in w.report) ≡ false
      → let l = bytes_of (cut_at w.at.place s).line s in
      step_of s w ≡ record {
        walk = record {
          at = past w.at (cut_at w.at.place s);
          held = tables_after w.held l;
          report = report_after w.report w.at.place (read_line_of l);
        };
        taken = Some ((cut_at w.at.place s).line, read_line_of l);
      }
  unfolding step_of step_to next_in
  step_on w h n room = ap (step_to s w) (sym (second _ room refl) ∙ next_on w.at h n)

  -- where no line comes next the walk stays
  pub step_done : (w : Walk) → is_full_of (figures_in w.report) ≡ false → None ≡ next_of s w.at →
      ◌≡◌ {A = Step} (record { walk = w; taken = None }) (step_of s w)
  unfolding step_of step_to next_in pick
  step_done w room e = rw (room, sym e)

  -- and so it does where a count is at its largest
  pub step_full : (w : Walk) → is_full_of (figures_in w.report) ≡ true →
      ◌≡◌ {A = Step} (record { walk = w; taken = None }) (step_of s w)
  unfolding step_of step_to next_in pick
  step_full w full = rw full

  -- the line l of the cut, its reading r, the report after it and what is held after it are the step
  pub step_line : (w : Walk) {cut : Cut} {after : Cursor} {l : List ℕ} {r : (Res Record)} {f : Report} {h : Tables} →
      is_full_of (figures_in w.report) ≡ false
      → ◌≡◌ {A = Option (Cut × Cursor)} (Some (cut, after)) (next_of s w.at)
      → l ≡ bytes_of (shown (find_part cut.line s)) s → r ≡ read_line_of l
      → figures_in f ≡ taken_by (figures_in w.report) w.at.place r → h ≡ tables_after w.held l
      → ◌≡◌ {A = Step} (record { walk = record { held = h; report = f; at = after }; taken = Some (cut.line, r) })
      (step_of s w)
  unfolding step_of step_to next_in report_after pick
  step_line w {cut} {after} {l} {r} {f} {h} room e v a u g =
      let i = next_is w.at cut after e in
      let b : l ≡ bytes_of cut.line s = v ∙ rw i.0 (ap (λ p. bytes_of p s) (cut_shown w.at.place i.1)) in
      rw (g, report_is f (rw a at u), a, b, room, sym e)
