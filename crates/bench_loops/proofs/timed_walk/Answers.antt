use Rattle.text.specs.Prelude.{◌≡◌}
use Rattle.text.proofs.Prelude.{arith, sym, ap, ◌∙◌}
use Rattle.igc_log.specs.Log.{readings}
use Rattle.report.specs.Report.{figures_in, report_of}
use Rattle.report.proofs.Answers.{figures_made}
use Rattle.walk.specs.Walk.{fresh}
use Rattle.walk.specs.Readings.{reader, at_end_of}
use Rattle.walk.specs.declared.Walk.{Walk}
use Rattle.walk.proofs.Reporting.{end_report}
use Rattle.bench_loops.specs.Timed.{above, summed, of_range, of_figures, report_sum}
use Rattle.bench_loops.proofs.timed_walk.Goals as goal

-- the sum is that of the walk's report, which is the log's
pub returns : goal.returns
unfolding report_sum of_figures summed
returns c =
    let s = c.args.log.now in
    let ended : c.walk_to_end-walk.result ≡ at_end_of s fresh = rw c.new.ensures at c.walk_to_end-walk.ensures in
    let ended-report = ap (λ (w : Walk). w.report) ended ∙ end_report s (omega arith) in
    let figures = ap figures_in ended-report ∙ figures_made (report_of (readings reader s)) in
    let report = c.walk_to_end-walk.result.report in
    let pressure : c.of_heights.result ≡ of_range (λ p. above p.height.0) (figures_in report).pressure =
    c.of_heights.ensures in
    let gps : c.of_heights-2.result ≡ of_range (λ p. above p.height.0) (figures_in report).gps =
    c.of_heights-2.ensures in
    rw (sym figures) (rw (
      c.wrapping_add_u64.ensures.value,
      c.of_times.ensures,
      c.wrapping_add_u64-heights.ensures.value,
      gps,
      pressure,
      c.wrapping_add_u64-counts.ensures.value,
    ) at c.wrapping_add_u64-2.ensures.value)
