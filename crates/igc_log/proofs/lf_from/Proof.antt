use Rattle.text.specs.Prelude.{ℕ, ◌+◌, ◌-◌, ◌≤◌, ◌<◌, ◌≡◌, length, drop}
use Rattle.text.proofs.Prelude.{rules, arith, refl, sym, ◌∙◌}
use Rattle.igc_log.specs.Line.{up_to}
use Rattle.igc_log.proofs.Ends.{up_to_none, lf_inside, lf_after}
use Rattle.igc_log.proofs.lf_from.Statement.{statement}
use Rattle.igc_log.proofs.lf_from.Tie as tie

-- the LF from here on is the LF from `at` on
abbrev invariant-loop : tie.invariant-loop-from
invariant-loop log at from₀ from = (from ≤ length log) × (from + up_to (drop from log) ≡ at + up_to (drop at log))

abbrev decreases-loop : tie.decreases-loop-from
decreases-loop log at from₀ from = length log - from

-- what a turn's tests tell of the LF from its place on
module _ (t : tie.In-loop-from invariant-loop decreases-loop) where
  abbrev from : ℕ
  from = t.before.loop-from.from

  abbrev lf : ℕ → ℕ
  lf i = i + up_to (drop i (t.before.before.before.before.args.log.now))

  -- it is among k bytes
  abbrev Among : ℕ → Type 0
  Among k = lf from < from + k

  -- it is not
  abbrev Past : ℕ → Type 0
  Past k = lf (from + k) ≡ lf from

  here : lf from ≡ lf t.before.before.before.before.args.at
  here = t.before.loop-from.invariant.1

in_block : (c : tie.Then-has_lf invariant-loop decreases-loop) → Among (search rules) 16
in_block c = lf_inside _ _ _ (search rules) (sym c.before.has_lf.ensures ∙ c.if-has_lf.true)

in_half : (c : tie.Then-has_lf-2 invariant-loop decreases-loop) → Among (search rules) 8
in_half c = lf_inside _ _ _ (search rules) (sym c.before.has_lf-then-has_lf.ensures ∙ c.if-has_lf-2.true)

past_half : (c : tie.Else-has_lf-2 invariant-loop decreases-loop) → Past (search rules) 8
past_half c = lf_after _ _ _ (search rules) (sym c.before.has_lf-then-has_lf.ensures ∙ c.if-has_lf-2.false)

past_block : (c : tie.Else-has_lf invariant-loop decreases-loop) → Past (search rules) 16
past_block c = lf_after _ _ _ (search rules) (sym c.before.has_lf.ensures ∙ c.if-has_lf.false)

pub lf_from_spec : {M : Type 1} → statement M
lf_from_spec =
    tie.close
    (tie.spec
    invariant-loop
    decreases-loop
    (λ c. up_to_none _ _ (search rules) refl)
    (search rules) (search rules) (search rules) (search rules) (search rules) (search rules) (search rules)
    (search rules) (search rules) (search rules) (search rules) (search rules)
    (λ c κs. omega (arith, in_half c))
    (λ c. c.lf_near.ensures ∙ here (search rules))
    (λ c κs. omega (arith, past_half c, in_block (search rules)))
    (λ c. c.lf_near-then-has_lf.ensures ∙ past_half (search rules) ∙ here (search rules))
    (search rules)
    (λ c. (search rules, past_block c ∙ here (search rules)))
    (search rules)
    (λ c. c.lf_tail.ensures ∙ c.before.before.loop-from.invariant.1))
