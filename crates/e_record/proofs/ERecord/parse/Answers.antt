use Rattle.text.specs.Prelude.{◌≡◌, no, cut, columns}
use Rattle.text.proofs.Prelude.{rules, ◌∙◌, came, on, off, counted, pass, stop, yes≤, no≤, yes=, no=, so_true, so_false}
use Rattle.field.specs.Field.{ascii_in}
use Rattle.e_record.specs.ERecord.{read_e}
use Rattle.e_record.proofs.ERecord.parse.Goals as goal

pub returns-then-line-lt10 : goal.returns-then-line-lt10
unfolding read_e
returns-then-line-lt10 c = stop _ (no≤ (search rules))

pub returns-then-line-ne69 : goal.returns-then-line-ne69
unfolding read_e
returns-then-line-ne69 c = pass _ (yes≤ (search rules)) (stop _ (no= c.if-line-ne69.true))

pub returns-then-not-is_ascii : goal.returns-then-not-is_ascii
unfolding read_e ascii_in cut
returns-then-not-is_ascii c =
    pass _ (yes≤ (search rules))
    (pass _ (yes= c.if-line-ne69.false) (stop _ (so_false c.is_ascii.ensures c.if-not-is_ascii.true)))

pub returns-in_err-time : goal.returns-in_err-time
unfolding read_e ascii_in columns cut
returns-in_err-time c =
    let left : c.from_residual.result ≡ no c.in_err-time.field-0.0 = search rules in
    let time = came c.in_err-time.was (counted 1 c.counted_from.ensures c.parse.ensures) in
    pass _ (yes≤ (search rules))
    (pass _ (yes= c.if-line-ne69.false)
    (pass _ (so_true c.is_ascii.ensures c.if-not-is_ascii.false) (left ∙ off _ time)))

pub returns : goal.returns
unfolding read_e ascii_in columns cut
returns c =
    let time = came c.in_ok-time.was (counted 1 c.counted_from.ensures c.parse.ensures) in
    pass _ (yes≤ (search rules))
    (pass _ (yes= c.if-line-ne69.false)
    (pass _ (so_true c.is_ascii.ensures c.if-not-is_ascii.false) (on _ time (rw c.from_column_or_none.ensures))))
