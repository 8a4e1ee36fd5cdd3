use Rattle.text.specs.Prelude.{Some}
use Rattle.text.proofs.Prelude.{arith, refl, ap, first, second, yes≤, no≤, holds, fails, and}
use Rattle.igc_log.specs.declared.Cut.{Cut}
use Rattle.cursor.specs.Cursor.{past, next_of}
use Rattle.cursor.proofs.Cursor.next.Goals as goal

pub returns-then-log-self : goal.returns-then-log-self
unfolding next_of
returns-then-log-self c = second _ (fails _ (no≤ (omega arith))) refl

pub returns-then-self-eq18446744073709551615 : goal.returns-then-self-eq18446744073709551615
unfolding next_of
returns-then-self-eq18446744073709551615 c = second _ (holds (yes≤ (omega arith)) (no≤ (omega arith))) refl

pub returns : goal.returns
unfolding next_of past
returns c =
    first _ (and (yes≤ (omega arith)) (yes≤ (omega arith)))
    (ap (λ (cut : Cut). Some (cut, past c.args.self cut)) c.cut_at-cut.ensures)
