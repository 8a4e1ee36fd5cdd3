use Rattle.text.specs.Prelude.{◌≡◌, no, cut, columns}
use Rattle.text.proofs.Prelude.{rules, ◌∙◌, came, on, off, counted, pass, stop, yes≤, no≤, yes=, no=, so_true, so_false}
use Rattle.field.specs.Field.{ascii_in}
use Rattle.c_turnpoint_record.specs.CTurnpoint.{read_turnpoint}
use Rattle.c_turnpoint_record.proofs.CRecordTurnpoint.parse.Goals as goal

pub returns-then-line-lt18 : goal.returns-then-line-lt18
unfolding read_turnpoint
returns-then-line-lt18 c = stop _ (no≤ c.if-line-lt18.true)

pub returns-then-line-ne67 : goal.returns-then-line-ne67
unfolding read_turnpoint
returns-then-line-ne67 c = pass _ (yes≤ c.if-line-lt18.false) (stop _ (no= c.if-line-ne67.true))

pub returns-then-not-is_ascii : goal.returns-then-not-is_ascii
unfolding read_turnpoint ascii_in cut
returns-then-not-is_ascii c =
    pass _ (yes≤ c.if-line-lt18.false)
    (pass _ (yes= c.if-line-ne67.false) (stop _ (so_false c.is_ascii.ensures c.if-not-is_ascii.true)))

pub returns-in_err-position : goal.returns-in_err-position
unfolding read_turnpoint ascii_in columns cut
returns-in_err-position c =
    let left : c.from_residual.result ≡ no c.in_err-position.field-0.0 = search rules in
    let position = came c.in_err-position.was (counted 1 c.counted_from.ensures c.parse.ensures) in
    pass _ (yes≤ c.if-line-lt18.false)
    (pass _ (yes= c.if-line-ne67.false)
    (pass _ (so_true c.is_ascii.ensures c.if-not-is_ascii.false) (left ∙ off _ position)))

pub returns : goal.returns
unfolding read_turnpoint ascii_in columns cut
returns c =
    let position = came c.in_ok-position.was (counted 1 c.counted_from.ensures c.parse.ensures) in
    pass _ (yes≤ c.if-line-lt18.false)
    (pass _ (yes= c.if-line-ne67.false)
    (pass _ (so_true c.is_ascii.ensures c.if-not-is_ascii.false)
    (on _ position (rw c.from_column_or_none.ensures))))
