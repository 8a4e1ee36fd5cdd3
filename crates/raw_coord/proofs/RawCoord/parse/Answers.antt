use Rattle.text.proofs.Prelude.{arith, ◌∙◌, so_true, so_false}
use Rattle.field.proofs.Fields.{wrong_length, not_ascii, field_of_ascii}
use Rattle.raw_coord.proofs.RawCoord.parse.Goals as goal

pub returns-then-text-lt6 : goal.returns-then-text-lt6
returns-then-text-lt6 c = wrong_length _ _ _ (grind arith)

pub returns-then-not-is_ascii : goal.returns-then-not-is_ascii
returns-then-not-is_ascii c =
    not_ascii _ _ _ (omega arith) (so_false c.is_ascii.ensures c.if-not-is_ascii.true)

pub returns : goal.returns
returns c = c.parse_ascii.ensures ∙ field_of_ascii _ _ _ (so_true c.is_ascii.ensures c.if-not-is_ascii.false)
