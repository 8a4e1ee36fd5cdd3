-- A turn by `Walk::step`, which carries place, number and table along.
use Rattle.records.specs.declared.Record.{Record}
use Rattle.text.specs.Prelude.{Res}
use Rattle.text.specs.Prelude.{ℕ, ◌-◌, ◌<◌, ◌≡◌, List, length}
use Rattle.text.proofs.Prelude.{arith, refl, sym, ap, ◌∙◌}
use Rattle.part.specs.Part.{bytes_of}
use Rattle.part.specs.declared.Part.{Part}
use Rattle.records.specs.Record.{read_line_of}
use Rattle.igc_log.specs.Line.{cut_at}
use Rattle.igc_log.specs.Fold.{Carried, fresh}
use Rattle.igc_log.proofs.Cuts.{cut_viewed}
use Rattle.igc_log.proofs.Reached.{Reached, line, less_left}
use Rattle.held.specs.declared.tables.Tables.{Tables}
use Rattle.report.specs.Report.{report_after}
use Rattle.cursor.specs.Cursor.{past}
use Rattle.walk.specs.Walk.{step_of}
use Rattle.walk.specs.Readings.{LineReading, reader}
use Rattle.walk.specs.declared.{Walk.Walk, Step.Step}
use Rattle.text.specs.Prelude.{Some, None}
use Rattle.walk.proofs.Laws.{step_on}
use Rattle.walk.proofs.Steps.{Roomy, going, roomy_on, roomy_step}

-- what a walk carries, with a made so far
abbrev pub carried_by : {T : Type 0} → Walk → T → Carried Tables T
carried_by w a = record { number = w.at.number; place = w.at.place; held = w.held; made = a }

module _ {T : Type 0} {step : T → LineReading → T} {a₀ a : T} {s : List ℕ} {w : Walk} {t : Step}
    (roomy : Roomy s w)
    (i : w.at.place < length s) (r : Reached reader step (fresh reader a₀) s w.at.place (carried_by w a))
    (e : t ≡ step_of s w) where
  abbrev here : List ℕ
  here = bytes_of (cut_at w.at.place s).line s

  -- no more lines than bytes were read, so no count stops the walk
  step_here : t ≡ record {
    walk = record {
      at = past w.at (cut_at w.at.place s);
      held = reader.after w.at.place w.held here;
      report = report_after w.report w.at.place (read_line_of here);
    };
    taken = Some ((cut_at w.at.place s).line, read_line_of here);
  }
  step_here = let on = going s w (roomy_on roomy i) in e ∙ step_on s w on.0 on.1 on.2

  pub not_done : t.taken ≡ None → ⊥
  not_done d = let n = step_here in let z : ◌≡◌ {A = ℕ} 0 1 = cc in omega arith

  pub step_read : {part : Part} {q : (Res Record)} → t.taken ≡ Some (part, q) → q ≡ read_line_of here
  step_read {part} {q} k =
      let n = step_here in
      let z : ◌≡◌ {A = Part × Res Record} (part, q) ((cut_at w.at.place s).line, read_line_of here) = cc in
      ap (λ (x : Part × Res Record). x.1) z

  -- the line that was read, with a' made of it
  pub step_turn : {a' : T} → ((n : ℕ) (h : Tables) →
      a' ≡ step a (record { number = n; place = w.at.place; line = here; answer = read_line_of here; held = h })) →
      Reached reader step (fresh reader a₀) s t.walk.at.place (carried_by t.walk a')
  unfolding past
  step_turn m = rw step_here (line i r refl (sym (cut_viewed s _ r.inside)) (omega arith) refl (m _ _))

  pub step_roomy : Roomy s t.walk
  step_roomy = rw e (roomy_step roomy i)

  pub step_less_left : length s - t.walk.at.place < length s - w.at.place
  unfolding past
  step_less_left = rw step_here (less_left r i refl)
