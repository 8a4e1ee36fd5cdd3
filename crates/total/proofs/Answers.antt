-- Any two answers that a contract permits are equal: the view tells its answer.
use Rattle.text.specs.Prelude.{◌≡◌, ok, no}
use Rattle.std.specs.Prelude.{Result}
use Rattle.text.proofs.Prelude.{refl, ap}
use Rattle.report.specs.Peak.{made}
use Rattle.report.proofs.Answers.{range_undone}
use Rattle.total.specs.Total.{Totals, Joining, given, refused, total_in, joined_in}
use Rattle.total.specs.declared.{Total.Total, TooLarge.TooLarge}

-- what the code holds that is viewed as this total
abbrev pub total_made : Totals → Total
total_made t = record {
  answers = t.figures.answers;
  logs = t.logs;
  lines = t.figures.lines;
  fixes = t.figures.fixes;
  pressure = made t.figures.pressure;
  gps = made t.figures.gps;
  times = made t.figures.times;
}

pub total_undone : (t : Total) → total_made (total_in t) ≡ t
total_undone t = rw (range_undone t.pressure, range_undone t.gps, range_undone t.times)

-- what it answers that is viewed as this
abbrev pub joined_made : Joining → Result Total TooLarge
joined_made (given t) = ok (total_made t)
joined_made (refused n) = no (record {})

pub joined_undone : (j : Result Total TooLarge) → joined_made (joined_in j) ≡ j
joined_undone (ok t) = ap ok (total_undone t)
joined_undone (no e) = refl
