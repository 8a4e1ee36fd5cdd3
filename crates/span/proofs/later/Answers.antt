use Rattle.std.proofs.Common.{rules, ◌≡◌}
use Rattle.text.specs.Prelude.{None}
use Rattle.text.proofs.Prelude.{refl, sym, ◌∙◌, first, second}
use Rattle.span.specs.Span.{mapped, shifted}
use Rattle.span.proofs.Fitting.{fit_pair}
use Rattle.span.proofs.later.Goals as goal

pub returns-then-not-fits : goal.returns-then-not-fits
unfolding shifted
returns-then-not-fits g c = second _ (sym c.fits.ensures ∙ c.if-not-fits.true) refl

pub returns-in_err-spots : goal.returns-in_err-spots
unfolding shifted mapped
returns-in_err-spots g c =
    let left : c.from_residual.result ≡ None = search rules in
    let span : c.args.span ≡ None = search rules in
    first _ (sym c.fits.ensures ∙ c.if-not-fits.false) (rw (left, span))

pub later-requires : goal.later-requires
unfolding mapped
later-requires g c =
    (fit_pair _ _ _ (rw c.in_ok-spots.was at (sym c.fits.ensures ∙ c.if-not-fits.false))).0

pub later-requires-2 : goal.later-requires-2
unfolding mapped
later-requires-2 g c =
    (fit_pair _ _ _ (rw c.in_ok-spots.was at (sym c.fits.ensures ∙ c.if-not-fits.false))).1

pub returns : goal.returns
unfolding shifted mapped
returns g c =
    first _ (sym c.fits.ensures ∙ c.if-not-fits.false)
    (rw (c.in_ok-spots.was, c.later.ensures, c.later-2.ensures))
