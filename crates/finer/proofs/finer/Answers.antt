use Rattle.text.specs.Prelude.{◌<◌, ◌^◌, ◌≡◌, ok, no, moved}
use Rattle.text.proofs.Prelude.{rules, arith, sym, ap, ◌∙◌, subst, came, counted, yes≤, no≤}
use Rattle.part.specs.Part.{bytes_of}
use Rattle.finer.specs.Finer.{read_plain_of, read_finer}
use Rattle.finer.specs.declared.FinerRefusal.{FinerRefusal}
use Rattle.finer.proofs.Reading.{read_below, found_moved}
use Rattle.finer.proofs.Parts.{viewed, wide, shown_wide}
use Rattle.finer.proofs.Steps.{go, halt, fitting, too_wide}
use Rattle.finer.proofs.finer.Goals as goal
use Rattle.finer.proofs.finer.Goals.{After-counted_from}

-- what is read of the part's bytes, its place counted from the line's start
read : (c : After-counted_from) →
    c.counted_from.result ≡ moved c.in_ok-part.part.start (read_plain_of (bytes_of c.in_ok-part.part c.args.line.now))
read c =
    let bytes = c.view.ensures.bytes ∙ viewed _ _ (c.requires _ c.in_ok-part.was) in
    counted _ c.counted_from.ensures (c.read_plain.ensures ∙ ap read_plain_of bytes)

pub returns-in_err-part : goal.returns-in_err-part
unfolding read_finer
returns-in_err-part c =
    let left : c.from_residual.result ≡ no (FinerRefusal.Read c.in_err-part.field-0.0) = search rules in
    left ∙ halt _ (sym c.in_err-part.was)

pub returns-then-part-gt5 : goal.returns-then-part-gt5
unfolding read_finer
returns-then-part-gt5 c = go _ (sym c.in_ok-part.was) (too_wide _ (no≤ c.if-part-gt5.true))

pub read_plain-requires : goal.read_plain-requires
read_plain-requires c =
    omega (arith, shown_wide _ _ (c.requires _ c.in_ok-part.was) c.view.ensures.bytes)

pub returns-in_err-digits : goal.returns-in_err-digits
unfolding read_finer
returns-in_err-digits c =
    let left : c.from_residual-in_err-digits.result ≡ no (FinerRefusal.Read c.in_err-digits.field-0.0) = search rules in
    left ∙ go _ (sym c.in_ok-part.was) (fitting (yes≤ c.if-part-gt5.false)
    (halt _ (came c.in_err-digits.was (read (goal.at.returns-in_err-digits c).After-counted_from))))

pub finely-requires : goal.finely-requires
finely-requires c =
    let digits = came c.in_ok-digits.was (read (goal.at.finely-requires c).After-counted_from) in
    let below = read_below _ (found_moved _ _ (sym digits)) in
    let wide = wide _ _ (c.requires _ c.in_ok-part.was) in
    (c.if-part-gt5.false, subst (λ n. c.in_ok-digits.digits < 10 ^ n) wide below)

pub returns : goal.returns
unfolding read_finer
returns c =
    go _ (sym c.in_ok-part.was) (fitting (yes≤ c.if-part-gt5.false)
    (go _ (came c.in_ok-digits.was (read (goal.at.returns c).After-counted_from)) (ap ok c.finely.ensures)))
