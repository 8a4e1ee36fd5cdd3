use Rattle.text.specs.Prelude.{ok, cut}
use Rattle.text.proofs.Prelude.{rules, ap, ◌∙◌, pass, stop, first, second, yes≤, no≤, yes=, no=, so_true, so_false}
use Rattle.a_record.specs.ARecord.{letter_form, read_a}
use Rattle.a_record.proofs.ARecord.parse.Goals as goal

pub returns-then-line-lt7 : goal.returns-then-line-lt7
unfolding read_a
returns-then-line-lt7 c = stop _ (no≤ (search rules))

pub returns-then-line-ne65 : goal.returns-then-line-ne65
unfolding read_a
returns-then-line-ne65 c = pass _ (yes≤ (search rules)) (stop _ (no= c.if-line-ne65.true))

pub returns-then-letter-gt127 : goal.returns-then-letter-gt127
unfolding read_a letter_form cut
returns-then-letter-gt127 c =
    pass _ (yes≤ (search rules))
    (pass _ (yes= c.if-line-ne65.false)
    (first _ (so_true c.all_digits.ensures c.if-all_digits.true) (stop _ (no≤ (search rules)))))

pub returns-then-all_digits : goal.returns-then-all_digits
unfolding read_a letter_form cut
returns-then-all_digits c =
    pass _ (yes≤ (search rules))
    (pass _ (yes= c.if-line-ne65.false)
    (first _ (so_true c.all_digits.ensures c.if-all_digits.true)
    (pass _ (yes≤ (search rules)) (ap ok (c.with_id.ensures ∙ rw c.parse_single_char-maker.ensures)))))

pub returns : goal.returns
unfolding read_a letter_form cut
returns c =
    pass _ (yes≤ (search rules))
    (pass _ (yes= c.if-line-ne65.false)
    (second _ (so_false c.all_digits.ensures c.if-all_digits.false) c.parse_triple.ensures))
