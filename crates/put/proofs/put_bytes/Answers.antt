use Rattle.text.specs.Prelude.{ℕ}
use Rattle.text.proofs.Prelude.{arith}
use native.Mathlib.Numerals.{add-one}
use lib.Seq.{take-suc}
use Rattle.put.proofs.Writing.{then, wrote_past}
use Rattle.put.proofs.put_bytes.Goals as goal

pub returns-then-at-buf : goal.returns-then-at-buf
returns-then-at-buf c = wrote_past _ c.if-at-buf.true (omega arith) c.after.ensures

pub loop-b-preserved : goal.loop-b-preserved
loop-b-preserved c =
    let inside = c.loop-b-test.true in
    rw (add-one, take-suc {A = ℕ} _ _ 0) (then c.loop-b.invariant c.put_byte-next.ensures)
