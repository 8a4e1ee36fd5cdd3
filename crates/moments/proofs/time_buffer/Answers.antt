use Rattle.files.proofs.Zeros.{zeros_long}
use Rattle.moments.proofs.time_buffer.Goals as goal

pub returns : goal.returns
returns c = zeros_long 24576 0
