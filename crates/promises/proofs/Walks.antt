-- A fresh walk reads every line of the log once, in order, before it is done, and keeps their report; and so does the
-- desk's reader.
use denote.Ref.{Bor}
use Rattle.text.specs.Prelude.{ℕ, zero, suc, ◌+◌, ◌≤◌, ◌<◌, ◌≡◌, true, false, List, length, take, drop}
use Rattle.text.specs.Prelude.{pick, ◌≤?◌, ◌∧?◌, largest}
use Rattle.text.proofs.Prelude.{arith, refl, sym, ap, ◌∙◌, take_all, yes≤, is≤, isnt≤, fails, and, by_test}
use Rattle.part.specs.Part.{bytes_of}
use Rattle.records.specs.Record.{read_line_of}
use Rattle.igc_log.specs.Line.{cut_at}
use Rattle.igc_log.specs.Log.{chunks, read_from, readings}
use Rattle.igc_log.proofs.Cuts.{read_past, read_line, cut_viewed}
use Rattle.held.specs.Tables.{tables_after}
use Rattle.report.specs.Report.{report_of, figures_in, report_after}
use Rattle.report.proofs.Answers.{figures_made}
use Rattle.report.proofs.Reports.{report_any}
use Rattle.cursor.specs.Cursor.{start, past, next_of}
use Rattle.walk.specs.Walk.{fresh, step_of}
use Rattle.walk.specs.Readings.{reader, read_by, walked, after_steps}
use Rattle.walk.specs.declared.{Walk.Walk, Step.Step}
use Rattle.text.specs.Prelude.{Some}
use Rattle.walk.proofs.Laws.{step_on}
use Rattle.walk.proofs.Steps.{Roomy, done, going, past_done, end_is_done, end_reached, roomy_fresh, roomy_on}
use Rattle.walk.proofs.Steps.{roomy_step}
use Rattle.walk.proofs.Reporting.{fresh_report}
use Rattle.reader.specs.Reader.{reader_at, handed_by, handed_out}
use Rattle.watch_text.specs.Watch.{watcher}
use Rattle.watch_text.proofs.Laws.{rises}
use Rattle.listing_text.specs.Listing.{listed, listing_text_of}
use Rattle.promises.specs.Walks.{Walks}

module _ (s : List ℕ) (w : Walk) where
  -- the line at the walk's place
  abbrev at : List ℕ
  at = bytes_of (cut_at w.at.place s).line s

  -- the walk after it
  abbrev then : Walk
  then = record {
    at = past w.at (cut_at w.at.place s);
    held = tables_after w.held at;
    report = report_after w.report w.at.place (read_line_of at);
  }

  -- is where a step leads that counts do not stop
  stepped : Roomy s w → w.at.place < length s →
      step_of s w ≡ record { walk = then; taken = Some ((cut_at w.at.place s).line, read_line_of at) }
  stepped roomy p = let on = going s w (roomy_on roomy p) in step_on s w on.0 on.1 on.2

-- with room for all lines that are left, k steps read the next k lines
walked_from : (s : List ℕ) (k : ℕ) (w : Walk) → Roomy s w
    → walked k s w
    ≡ take k (read_from reader w.at.number w.at.place w.held (chunks (drop w.at.place s)))
unfolding walked read_by past cut_at
walked_from s zero w roomy = refl
walked_from s (suc k) w roomy =
    let on = read_line reader s w.at.number w.at.place w.held in
    let off = read_past reader s w.at.number w.at.place w.held in
    by_test (w.at.place + 1 ≤? length s)
    (λ e.
    let p : w.at.place < length s = omega (arith, is≤ e) in
    let step = stepped s w roomy p in
    let ih = walked_from s k (then s w) (rw step at (roomy_step roomy p)) in
    rw (step, on p, ih))
    (λ e. let p : length s ≤ w.at.place = omega (arith, isnt≤ e) in rw (done s w (past_done s w p), off p))

-- so they do from the start
fresh_reads : (log : List ℕ) → length log ≤ largest → (k : ℕ) → walked k log fresh ≡ take k (readings reader log)
unfolding fresh start readings
fresh_reads log h k = walked_from log k fresh (roomy_fresh log h)

-- there the desk's reader hands out what a walk reads
handed_walked : (log : Bor (List ℕ)) (k : ℕ) (w : Walk) → Roomy (log.now) w
    → handed_out k (reader_at log w.at) w.held ≡ walked k (log.now) w
unfolding handed_out handed_by walked read_by next_of past pick
handed_walked log zero w roomy = refl
handed_walked log (suc k) w roomy =
    let s = log.now in
    by_test (w.at.place + 1 ≤? length s)
    (λ e.
    let p : w.at.place < length s = omega (arith, is≤ e) in
    let step = stepped s w roomy p in
    let more : ((w.at.place + 1 ≤? length s) ∧? (w.at.number + 1 ≤? largest)) ≡ true =
    and e (yes≤ (omega (arith, roomy.number))) in
    let ih = handed_walked log k (then s w) (rw step at (roomy_step roomy p)) in
    rw (step, more, cut_viewed s w.at.place roomy.inside, ih))
    (λ e.
    let p : length s ≤ w.at.place = omega (arith, isnt≤ e) in
    let none : ((w.at.place + 1 ≤? length s) ∧? (w.at.number + 1 ≤? largest)) ≡ false = fails _ e in
    rw (done s w (past_done s w p), none))

-- the walk's report, over the screen's own readings
watched_report : (log : List ℕ) → length log ≤ largest → (k : ℕ) →
    report_of (take k (readings watcher log)) ≡ figures_in (after_steps k log fresh).report
unfolding readings
watched_report log h k =
    report_any watcher reader (λ s. refl) k 0 0 _ _ (chunks log)
    ∙ sym (ap figures_in (fresh_report log h k) ∙ figures_made (report_of (take k (readings reader log))))

-- each statement, of every log
pub walks : Walks
unfolding listing_text_of fresh start
walks = record {
  fresh_reads = fresh_reads;
  fresh_report = fresh_report;
  done = done;
  reads = λ log w e. let on = going log w e in ap (λ (t : Step). t.taken) (step_on log w on.0 on.1 on.2);
  end_done = end_is_done;
  end_reached = end_reached;
  watch_rises = λ log h k x later e.
      (rises.at_line log k x later h e).1 ∙ rw (watched_report log h k, watched_report log h (k + 1));
  reader_reads = λ log h k. handed_walked log k fresh (roomy_fresh (log.now) h) ∙ fresh_reads (log.now) h k;
  listing_of_steps = λ log h k enough. ap listed (sym (fresh_reads log h k ∙ take_all k (readings reader log) enough));
}
