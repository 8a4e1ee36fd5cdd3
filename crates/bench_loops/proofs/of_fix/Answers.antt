use Rattle.text.proofs.Prelude.{rules, arith}
use Rattle.bench_loops.specs.Timed.{of_fix_of}
use Rattle.bench_loops.proofs.Heights.{above_is}
use Rattle.bench_loops.proofs.of_fix.Goals as goal

pub overflow_add-heights : goal.overflow_add-heights
overflow_add-heights c =
    let pressure = above_is {z = c.args.fix.pressure_alt.0} (search rules) c.above.ensures in
    let gps = above_is {z = c.args.fix.gps_alt.0} (search rules) c.above-2.ensures in
    omega (arith, pressure.1, gps.1)

pub overflow_add-result-2 : goal.overflow_add-result-2
overflow_add-result-2 c =
    let pressure = above_is {z = c.args.fix.pressure_alt.0} (search rules) c.above.ensures in
    let gps = above_is {z = c.args.fix.gps_alt.0} (search rules) c.above-2.ensures in
    omega (arith, pressure.1, gps.1)

pub returns : goal.returns
unfolding of_fix_of
returns c =
    let pressure = above_is {z = c.args.fix.pressure_alt.0} (search rules) c.above.ensures in
    let gps = above_is {z = c.args.fix.gps_alt.0} (search rules) c.above-2.ensures in
    rw (c.seconds_since_midnight.ensures, pressure.0, gps.0)
