-- Keeping the two ends of a range, of one thing more.
use Rattle.text.specs.Prelude.{ℕ, zero, suc, ◌+◌, ◌≡◌, ℤ, Bool, true, false, pick, ◌≤?◌}
use Rattle.text.proofs.Prelude.{arith, refl, sym, ◌∙◌, yes≤, no≤}
use lib.Dec.{ltb}
use Rattle.std.specs.Int.Signed.{lt_z}
use borrow.Author.Tests.{ltb-true, ltb-false}
use Rattle.text.proofs.Prelude.{by_test}
use Rattle.report.specs.Range.{between, higher, joined}
use Rattle.report.specs.Figures.{earlier}
use Rattle.reported.specs.Flat.{ranged, ends_between, times_between, new_end_of}
use Rattle.reported.specs.declared.{heights.Ends.Ends}
use Rattle.report.specs.declared.peak.Peak.{Peak}
use Rattle.reported.specs.declared.times.TimeEnds.{TimeEnds}

-- where something was seen
pub ranged_some : {P : Type 0} (n : ℕ) (high low : P) → (n ≡ 0 → ⊥) → between high low ≡ ranged n high low
unfolding ranged
ranged_some zero high low h = absurd (h refl)
ranged_some (suc n) high low h = refl

-- one thing more, and which ends it is
ends_joined : {P : Type 0} (below : P → P → Bool) (n : ℕ) (high low p : P) →
    between (pick (new_end_of n (below high p)) p high) (pick (new_end_of n (below p low)) p low)
    ≡ joined below (ranged n high low) (between p p)
unfolding ranged new_end_of joined higher pick
ends_joined below zero high low p = refl
ends_joined below (suc n) high low p = refl

-- ---- heights

module _ {H : Type 0} where
  -- a peak is picked by its place and its height
  peak_picked : (t : Bool) (p q : Peak H) →
      ◌≡◌ {A = Peak H} (record { place = pick t p.place q.place; height = pick t p.height q.height }) (pick t p q)
  unfolding pick
  peak_picked true p q = refl
  peak_picked false p q = refl

  module _ (metres : H → ℤ) where
    -- by height alone
    abbrev lower : Peak H → Peak H → Bool
    lower a b = lt_z (metres a.height) (metres b.height)

    -- a height more
    pub height_seen : (e : Ends H) (p : ℕ) (h : H) {up down : Bool} {a b : ℕ} {x y : H} →
        up ≡ new_end_of e.seen (lt_z (metres e.high) (metres h)) →
        down ≡ new_end_of e.seen (lt_z (metres h) (metres e.low)) →
        a ≡ pick up p e.high_place → b ≡ pick down p e.low_place → x ≡ pick up h e.high →
        y ≡ pick down h e.low →
        (let peak : Peak H = record { place = p; height = h } in
        between (record { place = a; height = x }) (record { place = b; height = y })
        ≡ joined lower (ends_between e) (between peak peak))
    height_seen e p h u d a b x y =
        let peak : Peak H = record { place = p; height = h } in
        let high : Peak H = record { place = e.high_place; height = e.high } in
        let low : Peak H = record { place = e.low_place; height = e.low } in
        rw (
          a,
          b,
          x,
          y,
          u,
          d,
          peak_picked (new_end_of e.seen (lower high peak)) peak high,
          peak_picked (new_end_of e.seen (lower peak low)) peak low,
        ) (ends_joined lower e.seen high low peak)

-- ---- times

-- a test of the code's for less, and the definition's
pub less_tested : (a b : ℕ) → ltb a b ≡ (a + 1 ≤? b)
less_tested a b =
    by_test (ltb a b)
    (λ e. e ∙ sym (yes≤ (omega (arith, ltb-true a b e))))
    (λ e. e ∙ sym (no≤ (omega (arith, ltb-false a b e))))

-- a time more
pub times_seen : (e : TimeEnds) (s : ℕ) {up down : Bool} {a b : ℕ} →
    up ≡ new_end_of e.seen (ltb e.latest s) → down ≡ new_end_of e.seen (ltb s e.earliest) →
    a ≡ pick up s e.latest → b ≡ pick down s e.earliest →
    between a b ≡ joined earlier (times_between e) (between s s)
unfolding earlier
times_seen e s u d a b =
    rw (a, b, u, d, less_tested e.latest s, less_tested s e.earliest)
    (ends_joined earlier e.seen e.latest e.earliest s)
