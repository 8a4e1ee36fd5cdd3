use Rattle.std.proofs.Common.{rules, ◌≡◌}
use Rattle.text.specs.Prelude.{None}
use Rattle.span.specs.Span.{mapped}
use Rattle.span.proofs.in_log.Goals as goal

pub returns-in_err-peaks : goal.returns-in_err-peaks
unfolding mapped
returns-in_err-peaks g c =
    let left : c.from_residual.result ≡ None = search rules in
    let range : c.args.range ≡ None = search rules in
    rw (left, range)

pub returns : goal.returns
unfolding mapped
returns g c = rw (c.in_ok-peaks.was, c.in_log.ensures, c.in_log-2.ensures)
