use Rattle.text.specs.Prelude.{◌≡◌, no}
use Rattle.text.proofs.Prelude.{rules, refl, ◌∙◌, came, on, off, pass, stop, yes=, no=, so_true, so_false}
use Rattle.field.specs.Field.{ascii, ascii_in}
use Rattle.d_record.specs.DRecord.{read_station, read_d}
use Rattle.d_record.proofs.DRecord.parse.Goals as goal

pub returns-then-line-ne6 : goal.returns-then-line-ne6
unfolding read_d
returns-then-line-ne6 c = stop _ (no= (search rules))

pub returns-then-line-ne68 : goal.returns-then-line-ne68
unfolding read_d
returns-then-line-ne68 c = pass _ (yes= (search rules)) (stop _ (no= c.if-line-ne68.true))

pub returns-then-not-is_ascii : goal.returns-then-not-is_ascii
unfolding read_d ascii ascii_in
returns-then-not-is_ascii c =
    pass _ (yes= (search rules))
    (pass _ (yes= c.if-line-ne68.false) (stop _ (so_false c.is_ascii.ensures c.if-not-is_ascii.true)))

pub returns-in_err-qualifier : goal.returns-in_err-qualifier
unfolding read_d read_station ascii ascii_in
returns-in_err-qualifier c =
    let left : c.from_residual.result ≡ no c.in_err-qualifier.field-0.0 = search rules in
    pass _ (yes= (search rules))
    (pass _ (yes= c.if-line-ne68.false)
    (pass _ (so_true c.is_ascii.ensures c.if-not-is_ascii.false)
    (left ∙ off _ (came c.in_err-qualifier.was c.from_letter.ensures))))

pub returns : goal.returns
unfolding read_d read_station ascii ascii_in
returns c =
    pass _ (yes= (search rules))
    (pass _ (yes= c.if-line-ne68.false)
    (pass _ (so_true c.is_ascii.ensures c.if-not-is_ascii.false)
    (on _ (came c.in_ok-qualifier.was c.from_letter.ensures) refl)))
