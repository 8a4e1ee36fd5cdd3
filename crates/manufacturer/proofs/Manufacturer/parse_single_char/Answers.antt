use Rattle.text.proofs.Prelude.{refl, ap, ◌∙◌, first, second, so_true, so_false}
use Rattle.manufacturer.specs.Maker.{is_letter}
use Rattle.manufacturer.proofs.Search.{turn, ended}
use Rattle.manufacturer.proofs.Manufacturer.parse_single_char.Goals as goal

pub returns-then-has_letter : goal.returns-then-has_letter
returns-then-has_letter c =
    first _ (so_true (c.has_letter.ensures ∙ ap (is_letter _) c.listed-row.ensures.2) c.if-has_letter.true) refl
    ∙ turn _ _ _ c.loop-place-test.true c.listed-row.ensures.0
    ∙ c.loop-place.invariant

pub loop-place-preserved : goal.loop-place-preserved
loop-place-preserved c =
    second _ (so_false (c.has_letter.ensures ∙ ap (is_letter _) c.listed-row.ensures.2) c.if-has_letter.false) refl
    ∙ turn _ _ _ c.loop-place-test.true c.listed-row.ensures.0
    ∙ c.loop-place.invariant

pub returns : goal.returns
returns c = ended _ _ _ c.loop-place-test.false ∙ c.loop-place.invariant
