use Rattle.files.proofs.Zeros.{zeros_long}
use Rattle.tasks.proofs.sheet_buffer.Goals as goal

pub returns : goal.returns
returns c = zeros_long 1048576 0
