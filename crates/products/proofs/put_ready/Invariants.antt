use Rattle.text.specs.Prelude.{◌-◌, length}
use Rattle.products.proofs.Feeding.{Feeding}
use Rattle.products.proofs.put_ready.Given as goal

-- the lines before the place are taken
abbrev pub invariant-loop-taken : goal.invariant-loop-taken
invariant-loop-taken l =
    Feeding l.product l.names l.fn.c l.lines l.initial.buf l.buf l.held l.number l.trailer l.taken l.end

abbrev pub decreases-loop-taken : goal.decreases-loop-taken
decreases-loop-taken l = length l.lines - l.taken
