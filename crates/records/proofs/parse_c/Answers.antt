use Rattle.text.specs.Prelude.{◌≡◌, no}
use Rattle.text.proofs.Prelude.{rules, refl, sym, ◌∙◌, came, on, off, pass, stop, first, second, yes≤, no≤}
use Rattle.records.specs.Record.{read_c, read_kind}
use Rattle.records.proofs.parse_c.Goals as goal

pub returns-then-line-lt9 : goal.returns-then-line-lt9
unfolding read_c read_kind
returns-then-line-lt9 c = stop _ (no≤ c.if-line-lt9.true)

pub returns-in_err-parse : goal.returns-in_err-parse
unfolding read_c read_kind
returns-in_err-parse c =
    let left : c.from_residual.result ≡ no c.in_err-parse.field-0.0 = search rules in
    pass _ (yes≤ c.if-line-lt9.false)
    (first _ (sym c.is_turnpoint.ensures ∙ c.if-is_turnpoint.true)
    (left ∙ off _ (came c.in_err-parse.was c.parse.ensures)))

pub returns-then-is_turnpoint : goal.returns-then-is_turnpoint
unfolding read_c read_kind
returns-then-is_turnpoint c =
    pass _ (yes≤ c.if-line-lt9.false)
    (first _ (sym c.is_turnpoint.ensures ∙ c.if-is_turnpoint.true) (on _ (came c.in_ok-parse.was c.parse.ensures) refl))

pub returns-in_err-parse-2 : goal.returns-in_err-parse-2
unfolding read_c read_kind
returns-in_err-parse-2 c =
    let left : c.from_residual-in_err-parse-2.result ≡ no c.in_err-parse-2.field-0.0 = search rules in
    pass _ (yes≤ c.if-line-lt9.false)
    (second _ (sym c.is_turnpoint.ensures ∙ c.if-is_turnpoint.false)
    (left ∙ off _ (came c.in_err-parse-2.was c.parse-2.ensures)))

pub returns : goal.returns
unfolding read_c read_kind
returns c =
    pass _ (yes≤ c.if-line-lt9.false)
    (second _ (sym c.is_turnpoint.ensures ∙ c.if-is_turnpoint.false)
    (on _ (came c.in_ok-parse-2.was c.parse-2.ensures) refl))
