use Rattle.text.specs.Prelude.{ok, cut}
use Rattle.text.proofs.Prelude.{ap, ◌∙◌, pass, stop, first, second, so_true, so_false}
use Rattle.field.specs.Field.{ascii_in}
use Rattle.a_record.specs.ARecord.{read_triple}
use Rattle.a_record.proofs.ARecord.parse_triple.Goals as goal

pub returns-then-is_ascii : goal.returns-then-is_ascii
unfolding read_triple ascii_in cut
returns-then-is_ascii c =
    first _ (so_true c.is_long.ensures c.if-is_long.true)
    (pass _ (so_true c.is_ascii.ensures c.if-is_ascii.true)
    (ap ok (c.with_id.ensures ∙ rw c.parse_triple_char-maker.ensures)))

pub returns-then-is_long : goal.returns-then-is_long
unfolding read_triple ascii_in cut
returns-then-is_long c =
    first _ (so_true c.is_long.ensures c.if-is_long.true)
    (stop _ (so_false c.is_ascii.ensures c.if-is_ascii.false))

pub returns-then-is_ascii-2 : goal.returns-then-is_ascii-2
unfolding read_triple ascii_in cut
returns-then-is_ascii-2 c =
    second _ (so_false c.is_long.ensures c.if-is_long.false)
    (pass _ (so_true c.is_ascii-2.ensures c.if-is_ascii-2.true)
    (ap ok (c.with_id-then-is_ascii-2.ensures ∙ rw c.parse_triple_char-maker.ensures)))

pub returns : goal.returns
unfolding read_triple ascii_in cut
returns c =
    second _ (so_false c.is_long.ensures c.if-is_long.false)
    (stop _ (so_false c.is_ascii-2.ensures c.if-is_ascii-2.false))
