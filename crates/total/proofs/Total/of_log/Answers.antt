use Rattle.total.specs.Total.{one_log, in_log_of}
use Rattle.total.proofs.Total.of_log.Goals as goal

pub returns : goal.returns
unfolding one_log in_log_of
returns c = rw (c.in_log.ensures, c.in_log-2.ensures)
