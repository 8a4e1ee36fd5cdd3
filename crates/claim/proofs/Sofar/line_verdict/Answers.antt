use Rattle.text.specs.Prelude.{◌≡◌, Bool}
use Rattle.text.proofs.Prelude.{refl, sym, ◌∙◌, first, second}
use Rattle.claim.specs.Step.{line_verdict_of}
use Rattle.claim.proofs.Sofar.line_verdict.Goals as goal

-- what the code asked is what the definition asks
said : {r t x : Bool} → r ≡ t → r ≡ x → t ≡ x
said e h = sym e ∙ h

pub returns-then-is_no_start : goal.returns-then-is_no_start
unfolding line_verdict_of
returns-then-is_no_start c = first _ (said c.is_no_start.ensures c.if-is_no_start.true) c.no.ensures

pub returns-then-is_out_of_place : goal.returns-then-is_out_of_place
unfolding line_verdict_of
returns-then-is_out_of_place c =
    second _ (said c.is_no_start.ensures c.if-is_no_start.false)
    (first _ (said c.is_out_of_place.ensures c.if-is_out_of_place.true) c.no-then-is_out_of_place.ensures)

pub returns-then-not-line : goal.returns-then-not-line
unfolding line_verdict_of
returns-then-not-line c =
    second _ (said c.is_no_start.ensures c.if-is_no_start.false)
    (second _ (said c.is_out_of_place.ensures c.if-is_out_of_place.false)
    (first _ c.if-not-line.true c.no-then-not-line.ensures))

pub returns-then-not-line-2 : goal.returns-then-not-line-2
unfolding line_verdict_of
returns-then-not-line-2 c =
    second _ (said c.is_no_start.ensures c.if-is_no_start.false)
    (second _ (said c.is_out_of_place.ensures c.if-is_out_of_place.false)
    (second _ c.if-not-line.false
    (first _ c.if-not-line-2.true c.no-then-not-line-2.ensures)))

pub returns-then-not-line-3 : goal.returns-then-not-line-3
unfolding line_verdict_of
returns-then-not-line-3 c =
    second _ (said c.is_no_start.ensures c.if-is_no_start.false)
    (second _ (said c.is_out_of_place.ensures c.if-is_out_of_place.false)
    (second _ c.if-not-line.false
    (second _ c.if-not-line-2.false
    (first _ c.if-not-line-3.true c.no-then-not-line-3.ensures))))

pub returns-then-is_second_back : goal.returns-then-is_second_back
unfolding line_verdict_of
returns-then-is_second_back c =
    second _ (said c.is_no_start.ensures c.if-is_no_start.false)
    (second _ (said c.is_out_of_place.ensures c.if-is_out_of_place.false)
    (second _ c.if-not-line.false
    (second _ c.if-not-line-2.false
    (second _ c.if-not-line-3.false
    (first _ (said c.is_second_back.ensures c.if-is_second_back.true) c.no-then-is_second_back.ensures)))))

pub returns : goal.returns
unfolding line_verdict_of
returns c =
    second _ (said c.is_no_start.ensures c.if-is_no_start.false)
    (second _ (said c.is_out_of_place.ensures c.if-is_out_of_place.false)
    (second _ c.if-not-line.false
    (second _ c.if-not-line-2.false
    (second _ c.if-not-line-3.false
    (second _ (said c.is_second_back.ensures c.if-is_second_back.false) refl)))))
