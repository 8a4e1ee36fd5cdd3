use Rattle.text.proofs.Prelude.{sym, ap, ◌∙◌}
use Rattle.records.specs.Record.{answered}
use Rattle.reported.specs.Glance.{plain_glance, glance_at, glance_of}
use Rattle.reported.proofs.Fixes.{b_line, other_line}
use Rattle.reported.proofs.glance.look.Goals as goal

pub returns-then-begins : goal.returns-then-begins
returns-then-begins c = c.of_b.ensures ∙ ap glance_of (b_line _ (sym c.begins.ensures ∙ c.if-begins.true))

pub returns : goal.returns
unfolding glance_of glance_at
returns c =
    rw (other_line _ (sym c.begins.ensures ∙ c.if-begins.false))
    (c.of_other.ensures ∙ ap plain_glance (c.answer_number.ensures ∙ ap answered c.parse_line.ensures))
