use Rattle.text.proofs.Prelude.{rules}
use Rattle.block_read.specs.Read.{read_line_of}
use Rattle.block_read.proofs.Coming.{then}
use Rattle.block_read.proofs.number.read_line.Statement.{statement}
use Rattle.block_read.proofs.number.read_line.Tie as tie

line : tie.Need-returns
unfolding read_line_of
line c = let w : tie.After-read_words-at_number = search rules in then _ w.read_words-at_number.ensures c.read_number.ensures.0

pub read_line_spec : {M : Type 1} → statement M
read_line_spec = tie.close (tie.spec (search rules) (search rules) line)
