use Rattle.files.proofs.Zeros.{zeros_long}
use Rattle.paper.proofs.text_buffer.Goals as goal

pub returns : goal.returns
returns c = zeros_long 2490433 0
