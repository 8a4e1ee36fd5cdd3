use Rattle.text.specs.Prelude.{pick, None, ◌≡◌}
use Rattle.text.proofs.Prelude.{rules, sym, ◌∙◌}
use Rattle.rise_text.specs.Rise.{raised, rise_of}
use Rattle.rise_text.proofs.rise.Goals as goal

pub returns-in_err-high : goal.returns-in_err-high
unfolding raised rise_of
returns-in_err-high g c =
    let left : c.from_residual.result ≡ None = search rules in
    rw c.in_err-high.was left

pub returns-in_default : goal.returns-in_default
unfolding raised rise_of
returns-in_default g c = rw (c.in_ok-high.was, c.in_default.is)

pub returns-then-below : goal.returns-then-below
unfolding raised rise_of pick
returns-then-below g c = rw (c.in_ok-high.was, c.in-Some.is, sym c.below.ensures ∙ c.if-below.true)

pub returns-else-below : goal.returns-else-below
unfolding raised rise_of pick
returns-else-below g c = rw (c.in_ok-high.was, c.in-Some.is, sym c.below.ensures ∙ c.if-below.false)
