use Rattle.text.specs.Prelude.{◌≡◌, length, take}
use Rattle.block_read.specs.Block.{read_answers_of}
use Rattle.block_read.specs.Held.{Came}
use Rattle.block_read.proofs.answers.read_answers.Given as goal

-- the first i counts are read
abbrev pub invariant-loop-i : goal.invariant-loop-i
invariant-loop-i l =
    (length l.counts ≡ 13) × Came l.text l.fn.from (read_answers_of l.i 0) l.place (take l.i l.counts)
