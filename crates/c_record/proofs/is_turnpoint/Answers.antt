use Rattle.text.specs.Prelude.{pick, ◌=?◌, ◌∨?◌}
use Rattle.text.proofs.Prelude.{arith}
use Rattle.std.proofs.lemmas.Bool.Decides.{nat_tests}
use lib.ListN.{get_or-eq_default}
use Rattle.c_record.specs.CRecord.{turns}
use Rattle.c_record.proofs.is_turnpoint.Goals as goal

pub returns-then-line-eq78 : goal.returns-then-line-eq78
unfolding turns pick ◌=?◌ ◌∨?◌
returns-then-line-eq78 c = grind (arith, nat_tests)

pub returns-else-line-eq78 : goal.returns-else-line-eq78
unfolding turns pick ◌=?◌ ◌∨?◌
returns-else-line-eq78 c = grind (arith, nat_tests)

-- past the end there is no letter
pub returns-else-line-gt8 : goal.returns-else-line-gt8
unfolding turns pick ◌=?◌ ◌∨?◌
returns-else-line-gt8 c =
    let none = get_or-eq_default c.args.line.now 0 c.if-line-gt8.false in rw none (grind (arith, nat_tests))
