use Rattle.text.specs.Prelude.{cut}
use Rattle.text.proofs.Prelude.{rules, pass, stop, yes≤, no≤, yes=, no=, so_true, so_false}
use Rattle.field.specs.Field.{ascii_in}
use Rattle.l_record.specs.LRecord.{read_l}
use Rattle.l_record.proofs.LRecord.parse.Goals as goal

pub returns-then-line-lt4 : goal.returns-then-line-lt4
unfolding read_l
returns-then-line-lt4 c = stop _ (no≤ (search rules))

pub returns-then-line-ne76 : goal.returns-then-line-ne76
unfolding read_l
returns-then-line-ne76 c = pass _ (yes≤ (search rules)) (stop _ (no= c.if-line-ne76.true))

pub returns-then-not-is_ascii : goal.returns-then-not-is_ascii
unfolding read_l ascii_in cut
returns-then-not-is_ascii c =
    pass _ (yes≤ (search rules))
    (pass _ (yes= c.if-line-ne76.false) (stop _ (so_false c.is_ascii.ensures c.if-not-is_ascii.true)))

pub returns : goal.returns
unfolding read_l ascii_in cut
returns c =
    pass _ (yes≤ (search rules))
    (pass _ (yes= c.if-line-ne76.false)
    (pass _ (so_true c.is_ascii.ensures c.if-not-is_ascii.false) (rw c.from_column_or_none.ensures)))
