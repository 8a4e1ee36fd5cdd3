use Rattle.text.specs.Prelude.{◌≡◌, no, cut, columns}
use Rattle.text.proofs.Prelude.{rules, refl, came, on, off, counted, pass, stop, ◌∙◌, yes=, no=, yes≤, no≤}
use Rattle.extension.specs.Extension.{read_definition, read_extension}
use Rattle.extension.proofs.Extension.parse.Goals as goal

pub returns-then-text-ne-STRING_LENGTH : goal.returns-then-text-ne-STRING_LENGTH
unfolding read_extension
returns-then-text-ne-STRING_LENGTH c = stop _ (no= c.if-text-ne-STRING_LENGTH.true)

pub returns-in_err-start : goal.returns-in_err-start
unfolding read_extension read_definition columns cut
returns-in_err-start c =
    let left : c.from_residual.result ≡ no c.in_err-start.field-0.0 = search rules in
    let start = came c.in_err-start.was (counted 0 c.counted_from.ensures c.read_u8.ensures) in
    pass _ (yes= c.if-text-ne-STRING_LENGTH.false) (left ∙ off _ start)

pub returns-in_err-end : goal.returns-in_err-end
unfolding read_extension read_definition columns cut
returns-in_err-end c =
    let left : c.from_residual-in_err-end.result ≡ no c.in_err-end.field-0.0 = search rules in
    let start = came c.in_ok-start.was (counted 0 c.counted_from.ensures c.read_u8.ensures) in
    let end = came c.in_err-end.was (counted 2 c.counted_from-2.ensures c.read_u8-2.ensures) in
    pass _ (yes= c.if-text-ne-STRING_LENGTH.false) (left ∙ on _ start (off _ end))

pub returns-then-end-start : goal.returns-then-end-start
unfolding read_extension read_definition columns cut
returns-then-end-start c =
    let start = came c.in_ok-start.was (counted 0 c.counted_from.ensures c.read_u8.ensures) in
    let end = came c.in_ok-end.was (counted 2 c.counted_from-2.ensures c.read_u8-2.ensures) in
    pass _ (yes= c.if-text-ne-STRING_LENGTH.false) (on _ start (on _ end (stop _ (no≤ c.if-end-start.true))))

pub returns : goal.returns
unfolding read_extension read_definition columns cut
returns c =
    let start = came c.in_ok-start.was (counted 0 c.counted_from.ensures c.read_u8.ensures) in
    let end = came c.in_ok-end.was (counted 2 c.counted_from-2.ensures c.read_u8-2.ensures) in
    pass _ (yes= c.if-text-ne-STRING_LENGTH.false) (on _ start (on _ end (pass _ (yes≤ c.if-end-start.false) refl)))
