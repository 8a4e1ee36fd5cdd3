use Rattle.files.proofs.Zeros.{zeros_long}
use Rattle.tasks.proofs.log_buffer.Goals as goal

pub returns : goal.returns
returns c = zeros_long 4194305 0
