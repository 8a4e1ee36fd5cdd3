use Rattle.text.proofs.Prelude.{refl, sym, ◌∙◌, first, second}
use Rattle.report.specs.Range.{higher}
use Rattle.report.proofs.range.higher.Goals as goal

pub returns-then-below : goal.returns-then-below
unfolding higher
returns-then-below g c = first _ (sym c.below.ensures ∙ c.if-below.true) refl

pub returns-else-below : goal.returns-else-below
unfolding higher
returns-else-below g c = second _ (sym c.below.ensures ∙ c.if-below.false) refl
