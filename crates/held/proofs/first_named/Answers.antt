use Rattle.text.proofs.Prelude.{refl, ◌∙◌, first, second, so_true, so_false}
use Rattle.table.specs.Table.{defs_of}
use Rattle.held.proofs.Lookups.{equal_names, first_or_later, none_left}
use Rattle.held.proofs.first_named.Goals as goal

pub returns-then-eq : goal.returns-then-eq
unfolding defs_of
returns-then-eq c =
    first _ (so_true (c.eq.ensures ∙ equal_names _ _) c.if-eq.true) refl
    ∙ first_or_later _ _ _ c.loop-def-test.true ∙ c.loop-def.invariant

pub loop-def-preserved : goal.loop-def-preserved
loop-def-preserved c =
    second _ (so_false (c.eq.ensures ∙ equal_names _ _) c.if-eq.false) refl
    ∙ first_or_later _ _ _ c.loop-def-test.true ∙ c.loop-def.invariant

pub returns : goal.returns
unfolding defs_of
returns c = none_left _ _ c.loop-def.def-index c.loop-def-test.false ∙ c.loop-def.invariant
