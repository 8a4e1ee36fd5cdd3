-- The block of all logs is undone.
use Rattle.text.specs.Prelude.{pick, ◌=?◌, ◌∧?◌}
use Rattle.text.specs.Spelt.{spelt, spelt_from}
use Rattle.text.proofs.Prelude.{refl, append_assoc, yes≤, is≤, both, and}
use Rattle.span.specs.Span.{all_fit}
use Rattle.total.specs.Total.{total_fits}
use Rattle.sheet_text.specs.Sheet.{number_line, height_line, pressure_spot_line, gps_spot_line, count_lines, figure_lines}
use Rattle.sheet_text.specs.Sheet.{all_text}
use Rattle.block_read.specs.Read.{starts_with}
use Rattle.block_read.specs.Block.{read_all}
use Rattle.block_read.specs.Laws.{PressureFits, GpsFits, InFields, ReadsBack}
use Rattle.block_read.proofs.Undoing.{Undoes, then, into, seen, told}
use Rattle.block_read.proofs.LinesUndone.{line, pressure, gps, range_lines_lem, times}
use Rattle.block_read.proofs.AnswersUndone.{answers_then}

all_undone : Undoes InFields all_text (λ t. t) read_all
unfolding read_all all_text figure_lines count_lines number_line pressure_spot_line gps_spot_line height_line total_fits all_fit
    starts_with spelt spelt_from ◌=?◌ ◌∧?◌ pick
all_undone =
    told
    (seen
    (then (line (spelt "all ")) (λ logs.
    then (line (spelt "lines ")) (λ lines.
    answers_then (λ answers.
    then (line (spelt "fixes ")) (λ fixes.
    then (range_lines_lem PressureFits _ (λ ws p. refl) pressure (spelt "pressure")) (λ pressure.
    then (range_lines_lem GpsFits _ (λ ws p. refl) gps (spelt "gps")) (λ gps.
    into times (λ times.
    record {
      logs = logs;
      figures = record {
        lines = lines;
        answers = answers;
        fixes = fixes;
        pressure = pressure;
        gps = gps;
        times = times;
      };
    })))))
    (λ b r. refl))))
    (λ t.
    let f = t.figures in
    (t.logs, (f.lines, (f.answers, (f.fixes, (f.pressure, (f.gps, f.times)))))))
    (λ x.
    record {
      logs = x.0;
      figures = record {
        lines = x.1.0;
        answers = x.1.1.0;
        fixes = x.1.1.1.0;
        pressure = x.1.1.1.1.0;
        gps = x.1.1.1.1.1.0;
        times = x.1.1.1.1.1.1;
      };
    })
    (λ x. refl)
    (λ t ok.
    let a = both ok.counts in
    let b = both a.1 in
    let c = both b.1 in
    (is≤ a.0, (is≤ b.0, ((ok.answers, c.1), (is≤ c.0, (ok.pressure, (ok.gps, ok.times)))))))
    (λ x ok.
    record {
      counts = and (yes≤ ok.0) (and (yes≤ ok.1.0) (and (yes≤ ok.1.1.1.0) ok.1.1.0.1));
      answers = ok.1.1.0.0;
      pressure = ok.1.1.1.1.0;
      gps = ok.1.1.1.1.1.0;
      times = ok.1.1.1.1.1.1;
    }))
    (λ t. simp append_assoc)

pub reads_back : ReadsBack
reads_back = record {
  reads = all_undone.reads;
  printed = λ s t r h. let p = all_undone.printed s t r h in rw p.is p.text;
  fields = λ s t r h. let p = all_undone.printed s t r h in rw p.is p.ok;
}
