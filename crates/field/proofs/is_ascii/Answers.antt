use Rattle.text.proofs.Prelude.{arith, refl, sym, ◌∙◌, holds, fails}
use Rattle.text.proofs.Lines.{cut_rest}
use Rattle.field.proofs.Ascii.{eight_bytes_on}
use Rattle.field.proofs.is_ascii.Goals as goal

pub returns-then-not-low8 : goal.returns-then-not-low8
returns-then-not-low8 c =
    sym (fails _ c.if-not-low8.true) ∙ eight_bytes_on _ c.loop-i.i (omega arith) c.loop-i.invariant.left c.low8.ensures

pub loop-i-preserved : goal.loop-i-preserved
loop-i-preserved c = record {
  inside = omega arith;
  left = sym (holds c.if-not-low8.false refl) ∙ eight_bytes_on _ c.loop-i.i (omega arith) c.loop-i.invariant.left
      c.low8.ensures;
}

pub returns : goal.returns
returns c = c.ascii_tail.ensures ∙ rw cut_rest c.loop-i.invariant.left
