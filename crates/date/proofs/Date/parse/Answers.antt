use Rattle.text.proofs.Prelude.{◌∙◌, so_true, so_false}
use Rattle.field.proofs.Fields.{wrong_length, not_ascii, field_of_ascii}
use Rattle.date.specs.Date.{read_date, date_in}
use Rattle.date.proofs.Date.parse.Goals as goal

pub returns-then-text-ne6 : goal.returns-then-text-ne6
unfolding read_date
returns-then-text-ne6 c = wrong_length _ _ _ c.if-text-ne6.true

pub returns-then-not-is_ascii : goal.returns-then-not-is_ascii
unfolding read_date
returns-then-not-is_ascii c = not_ascii _ _ _ c.if-text-ne6.false (so_false c.is_ascii.ensures c.if-not-is_ascii.true)

pub returns : goal.returns
unfolding read_date date_in
returns c = c.parse_ascii.ensures ∙ field_of_ascii _ _ _ (so_true c.is_ascii.ensures c.if-not-is_ascii.false)
