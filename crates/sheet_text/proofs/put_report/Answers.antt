use Rattle.put.proofs.Writing.{then}
use Rattle.text.specs.Spelt.{spelt_from, spelt}
use Rattle.sheet_text.specs.Sheet.{height_line, pressure_peak_line, gps_peak_line, figure_lines}
use Rattle.sheet_text.proofs.put_report.Goals as goal

pub returns : goal.returns
unfolding figure_lines pressure_peak_line gps_peak_line height_line spelt spelt_from
returns c = search (then)
