use Rattle.text.specs.Prelude.{◌≡◌, no}
use Rattle.text.proofs.Prelude.{rules, refl, sym, ◌∙◌, came, on, off}
use Rattle.b_quick.proofs.Sure.{quick_is_read}
use Rattle.records.specs.Record.{read_kind}
use Rattle.records.proofs.parse_b.Goals as goal

pub returns-in-Some : goal.returns-in-Some
unfolding read_kind
returns-in-Some c = on _ (quick_is_read _ (sym c.in-Some.is ∙ c.quick_fix.ensures)) refl

pub returns-in_err-parse : goal.returns-in_err-parse
unfolding read_kind
returns-in_err-parse c =
    let left : c.from_residual.result ≡ no c.in_err-parse.field-0.0 = search rules in
    left ∙ off _ (came c.in_err-parse.was c.parse.ensures)

pub returns : goal.returns
unfolding read_kind
returns c = on _ (came c.in_ok-parse.was c.parse.ensures) refl
