use Rattle.text.proofs.Prelude.{refl, sym, ◌∙◌}
use Rattle.products.proofs.put_lines.Goals as goal

pub put_ready-requires : goal.put_ready-requires
put_ready-requires c = sym c.is_ready.ensures ∙ c.if-is_ready.true

pub returns-then-is_ready : goal.returns-then-is_ready
returns-then-is_ready c = rw (sym c.is_ready.ensures ∙ c.if-is_ready.true) c.put_ready.ensures

pub returns : goal.returns
returns c = rw (sym c.is_ready.ensures ∙ c.if-is_ready.false) (refl, refl)
