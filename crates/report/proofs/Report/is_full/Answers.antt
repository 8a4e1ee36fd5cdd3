use Rattle.text.specs.Prelude.{◌∨?◌, pick, largest}
use Rattle.text.proofs.Prelude.{arith, yes≤, no≤}
use Rattle.report.specs.Report.{is_full_of}
use Rattle.report.proofs.Report.is_full.Goals as goal

pub returns-then-self-eq18446744073709551615 : goal.returns-then-self-eq18446744073709551615
unfolding is_full_of ◌∨?◌ pick
returns-then-self-eq18446744073709551615 c = rw (yes≤ {a = largest} {b = c.args.self.lines} (omega arith))

pub returns-then-self-eq18446744073709551615-2 : goal.returns-then-self-eq18446744073709551615-2
unfolding is_full_of ◌∨?◌ pick
returns-then-self-eq18446744073709551615-2 c =
    rw (no≤ {a = largest} {b = c.args.self.lines} (omega arith), yes≤ {a = largest} {b = c.args.self.fixes} (omega arith))

pub returns : goal.returns
unfolding is_full_of ◌∨?◌ pick
returns c =
    rw (no≤ {a = largest} {b = c.args.self.lines} (omega arith), no≤ {a = largest} {b = c.args.self.fixes} (omega arith))
    c.one_full.ensures
