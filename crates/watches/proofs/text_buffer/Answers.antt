use Rattle.files.proofs.Zeros.{zeros_long}
use Rattle.watches.proofs.text_buffer.Goals as goal

pub returns : goal.returns
returns c = zeros_long 65536 0
