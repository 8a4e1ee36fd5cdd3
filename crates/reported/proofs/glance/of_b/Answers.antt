use Rattle.text.proofs.Prelude.{refl, sym, ap, ◌∙◌, came, on, off}
use Rattle.b_quick.proofs.Sure.{quick_is_read}
use Rattle.records.specs.Record.{accepted_as, record_fix, answered, answer_fix}
use Rattle.reported.specs.Glance.{plain_glance, glance_at, glance_of}
use Rattle.reported.proofs.glance.of_b.Goals as goal

pub returns-in-Some : goal.returns-in-Some
unfolding glance_of glance_at answered answer_fix accepted_as record_fix
returns-in-Some c =
    c.of_fix.ensures ∙ ap glance_of (on _ (quick_is_read _ (sym c.in-Some.is ∙ c.quick_fix.ensures)) refl)

pub returns-in-Ok : goal.returns-in-Ok
unfolding glance_of glance_at answered answer_fix accepted_as record_fix
returns-in-Ok c = c.of_fix-in-Ok.ensures ∙ ap glance_of (on _ (came c.in-Ok.is c.parse.ensures) refl)

pub returns-in-Err : goal.returns-in-Err
unfolding glance_of glance_at answered answer_fix
returns-in-Err c =
    c.of_other.ensures ∙ ap plain_glance c.number.ensures ∙ ap glance_of (off _ (came c.in-Err.is c.parse.ensures))
