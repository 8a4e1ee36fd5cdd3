use Rattle.text.specs.Prelude.{◌∨?◌}
use Rattle.text.proofs.Prelude.{refl, sym, ◌∙◌, first, second}
use Rattle.finer.proofs.is_plain.Goals as goal

pub returns-then-is_undefined : goal.returns-then-is_undefined
unfolding ◌∨?◌
returns-then-is_undefined c =
    c.if-is_undefined.true ∙ first _ (sym c.is_undefined.ensures ∙ c.if-is_undefined.true) refl

pub returns-else-is_undefined : goal.returns-else-is_undefined
unfolding ◌∨?◌
returns-else-is_undefined c =
    second _ (sym c.is_undefined.ensures ∙ c.if-is_undefined.false) c.is_undefined-else-is_undefined.ensures
