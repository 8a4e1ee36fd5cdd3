use Rattle.text.specs.Prelude.{ℕ, ◌≡◌, Option, None, Some, Bool, true, false, not}
use Rattle.text.proofs.Prelude.{arith, refl, sym, ap, ◌∙◌, yes≤, no≤, holds, fails, never, tested}
use Rattle.std.specs.Prelude.{is_some}
use Rattle.hours.specs.Hours.{is_nowhere, lacks}
use Rattle.hours.proofs.Index.lacks.Goals as goal

none_held : (r : Bool) (a : Option ℕ) → is_some a ≡ not r → r ≡ is_nowhere a
unfolding is_nowhere
none_held true None e = refl
none_held false None e = never e refl
none_held true (Some p) e = never refl e
none_held false (Some p) e = refl

pub returns-then-hour-le24 : goal.returns-then-hour-le24
unfolding lacks
returns-then-hour-le24 c =
    let nowhere = none_held c.is_none.result _ c.is_none.ensures ∙ ap is_nowhere c.first_in.ensures in
    nowhere ∙ sym (holds (yes≤ (omega (arith, c.if-hour-le24.true))) refl)

pub returns-else-hour-le24 : goal.returns-else-hour-le24
unfolding lacks
returns-else-hour-le24 c =
    sym (tested _ 24) ∙ no≤ c.if-hour-le24.false ∙ sym (fails _ (no≤ (omega (arith, c.if-hour-le24.false))))
