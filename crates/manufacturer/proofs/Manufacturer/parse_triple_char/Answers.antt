use Rattle.text.proofs.Prelude.{rules, refl, ◌∙◌, first, second}
use Rattle.manufacturer.proofs.Search.{turn, ended, triple_found, triple_passed}
use Rattle.manufacturer.proofs.Manufacturer.parse_triple_char.Goals as goal

pub returns-then-number-wanted : goal.returns-then-number-wanted
returns-then-number-wanted c =
    first _ (triple_found _ c.listed-row.ensures.1 (search rules) (search rules) (search rules) (search rules) (cc)) refl
    ∙ turn _ _ _ c.loop-place-test.true c.listed-row.ensures.0
    ∙ c.loop-place.invariant

pub loop-place-preserved : goal.loop-place-preserved
loop-place-preserved c =
    second _ (triple_passed _ c.listed-row.ensures.1 (λ e. c.if-number-wanted.false (cc))) refl
    ∙ turn _ _ _ c.loop-place-test.true c.listed-row.ensures.0
    ∙ c.loop-place.invariant

pub returns : goal.returns
returns c = ended _ _ _ c.loop-place-test.false ∙ c.loop-place.invariant
