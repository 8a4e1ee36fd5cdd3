use Rattle.files.proofs.Zeros.{zeros_long}
use Rattle.listings.proofs.text_buffer.Goals as goal

pub returns : goal.returns
returns c = zeros_long 1310720 0
