-- The report that a walk keeps is that of the lines it has read.
use Rattle.text.specs.Prelude.{ℕ, zero, suc, ◌+◌, ◌≤◌, ◌<◌, ◌≡◌, List, length, take, drop, ◌≤?◌, largest}
use Rattle.text.proofs.Prelude.{arith, refl, sym, ap, ◌∙◌, take_all, length-take, is≤, isnt≤, by_test}
use Rattle.part.specs.Part.{bytes_of}
use Rattle.records.specs.Record.{read_line_of}
use Rattle.igc_log.specs.Line.{cut_at}
use Rattle.igc_log.specs.Log.{chunks, read_from, readings}
use Rattle.igc_log.specs.Fold.{over}
use Rattle.igc_log.proofs.Chunks.{chunks_le}
use Rattle.igc_log.proofs.Cuts.{read_past, read_line}
use Rattle.igc_log.proofs.Pieces.{length_readings}
use Rattle.held.specs.Tables.{tables_after}
use Rattle.report.specs.Figures.{empty}
use Rattle.report.specs.Report.{figures_in, report_made, report_of, report_step}
use Rattle.report.proofs.Answers.{report_is, figures_made}
use Rattle.report.proofs.Reports.{taken_all}
use Rattle.cursor.specs.Cursor.{start, past}
use Rattle.walk.specs.Walk.{fresh, step_of}
use Rattle.walk.specs.Readings.{reader, after_steps, at_end_of}
use Rattle.walk.specs.declared.Walk.{Walk}
use Rattle.walk.proofs.Laws.{step_on}
use Rattle.walk.proofs.Steps.{Roomy, past_done, stays, going, roomy_fresh, roomy_on, roomy_step, figures_after}

-- k steps take the next k lines into it
reports_from : (s : List ℕ) (k : ℕ) (w : Walk) → Roomy s w →
    figures_in (after_steps k s w).report ≡
    over report_step (figures_in w.report)
    (take k (read_from reader w.at.number w.at.place w.held (chunks (drop w.at.place s))))
unfolding after_steps over report_step past
reports_from s zero w roomy = refl
reports_from s (suc k) w roomy =
    by_test (w.at.place + 1 ≤? length s)
    (λ e.
    let i : w.at.place < length s = omega (arith, is≤ e) in
    let on = going s w (roomy_on roomy i) in
    let l = bytes_of (cut_at w.at.place s).line s in
    let next = (cut_at w.at.place s).next in
    let later = read_from reader (w.at.number + 1) next (tables_after w.held l) (chunks (drop next s)) in
    let line = read_line reader s w.at.number w.at.place w.held i in
    let step = step_on s w on.0 on.1 on.2 in
    reports_from s k (step_of s w).walk (roomy_step roomy i)
    ∙ rw step (ap (λ f. over report_step f (take k later)) (figures_after roomy i (read_line_of l)))
    ∙ ap (λ xs. over report_step (figures_in w.report) (take (suc k) xs)) (sym line))
    (λ e.
    let i : length s ≤ w.at.place = omega (arith, isnt≤ e) in
    let none = read_past reader s w.at.number w.at.place w.held i in
    rw (stays s (suc k) w (past_done s w i), none))

module _ (s : List ℕ) (short : length s ≤ largest) where
  few : length (readings reader s) ≤ length s
  few = omega (arith, length_readings reader s, chunks_le s)

  -- so after k steps of a fresh walk it is the report of the first k lines
  pub fresh_report : (k : ℕ) → (after_steps k s fresh).report ≡ report_made (report_of (take k (readings reader s)))
  unfolding fresh start readings
  fresh_report k =
      let xs = take k (readings reader s) in
      let steps = reports_from s k fresh (roomy_fresh s short) in
      let all = taken_all xs (omega (arith, few, length-take k (readings reader s))) in
      report_is (after_steps k s fresh).report (rw (figures_made empty) at steps ∙ all)

  -- and at the end that of the log
  pub end_report : (at_end_of s fresh).report ≡ report_made (report_of (readings reader s))
  unfolding at_end_of
  end_report =
      let all = take_all (length s) (readings reader s) few in
      fresh_report (length s) ∙ ap (λ xs. report_made (report_of xs)) all
