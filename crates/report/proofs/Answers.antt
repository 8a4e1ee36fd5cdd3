-- Any two answers that a contract permits are equal: the view tells its answer.
use Rattle.text.specs.Prelude.{◌≡◌, Option, Some, None}
use Rattle.text.proofs.Prelude.{refl, sym, ap, ◌∙◌}
use Rattle.report.specs.Range.{Range, none, between}
use Rattle.report.specs.Peak.{PressurePeak, GpsPeak, range_in, made}
use Rattle.report.specs.Figures.{Figures}
use Rattle.report.specs.Report.{figures_in, report_made}
use Rattle.report.specs.declared.{range.Extremes.Extremes, Report.Report}

pub range_undone : {P : Type 0} (r : Option (Extremes P)) → made (range_in r) ≡ r
range_undone None = refl
range_undone (Some e) = refl

pub report_undone : (r : Report) → report_made (figures_in r) ≡ r
report_undone r = rw (range_undone r.pressure, range_undone r.gps, range_undone r.times)

pub figures_tell : (r q : Report) → figures_in r ≡ figures_in q → r ≡ q
figures_tell r q e = sym (report_undone r) ∙ ap report_made e ∙ report_undone q

-- the report whose figures are these
pub report_is : (r : Report) {f : Figures PressurePeak GpsPeak} → figures_in r ≡ f → r ≡ report_made f
report_is r e = sym (report_undone r) ∙ ap report_made e

-- and the other way round: a report made of figures is viewed as these
range_made : {P : Type 0} (r : Range P) → range_in (made r) ≡ r
range_made none = refl
range_made (between high low) = refl

pub figures_made : (f : Figures PressurePeak GpsPeak) → figures_in (report_made f) ≡ f
figures_made f = rw (range_made f.pressure, range_made f.gps, range_made f.times)
