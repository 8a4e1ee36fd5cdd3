use Rattle.text.specs.Prelude.{true}
use Rattle.reported.specs.Reported.{nothing_yet, so_far_in}
use Rattle.sheets.specs.Sheets.{Goes}
use Rattle.sheets.proofs.report_file.Given as goal

-- the report so far is that of whole lines
abbrev pub invariant-loop : goal.invariant-loop
invariant-loop l = Goes nothing_yet (so_far_in l.sofar) true
