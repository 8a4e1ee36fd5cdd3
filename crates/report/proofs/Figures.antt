-- Figures as one: in any grouping the same, and with those of nothing unchanged.
use Rattle.report.specs.Peak.{GpsPeak, PressurePeak}
use Rattle.text.specs.Prelude.{ℕ, ◌≡◌, Bool, true, false, length, ℤ, pos, negsuc}
use Rattle.text.proofs.Prelude.{arith, refl, sym, ◌∙◌, yes≤, no≤, is≤, isnt≤, never, by_test}
use native.Mathlib.Nat.{zero-add, add-zero, add_assoc}
use lib.Dec.{ltb}
use lib.Signed.{lt_z}
use borrow.Author.Tests.{ltb-true, ltb-false, le-ltb}
use Rattle.report.specs.Range.{Order}
use Rattle.report.specs.Counts.{numbers, by_number}
use Rattle.report.specs.Figures.{Figures, earlier, empty, both}
use Rattle.report.specs.Report.{below_pressure, below_gps}
use Rattle.report.proofs.Ranges.{joined_assoc, joined_none, none_joined}
use Rattle.report.proofs.Counts.{added_assoc, zeros_added, added_zeros}

-- ---- orders of heights and times

lower_one_way : (a b : ℤ) → lt_z a b ≡ true → lt_z b a ≡ false
lower_one_way (pos a) (pos b) h = le-ltb b a (omega (arith, ltb-true a b h))
lower_one_way (pos a) (negsuc b) h = never h refl
lower_one_way (negsuc a) (pos b) h = refl
lower_one_way (negsuc a) (negsuc b) h = le-ltb a b (omega (arith, ltb-true b a h))

lower_through : (a b c : ℤ) → lt_z a b ≡ false → lt_z b c ≡ false → lt_z a c ≡ false
lower_through (pos a) (pos b) (pos c) p q = le-ltb a c (omega (arith, ltb-false a b p, ltb-false b c q))
lower_through (pos a) (pos b) (negsuc c) p q = refl
lower_through (pos a) (negsuc b) (pos c) p q = never refl q
lower_through (pos a) (negsuc b) (negsuc c) p q = refl
lower_through (negsuc a) (pos b) c p q = never refl p
lower_through (negsuc a) (negsuc b) (pos c) p q = never refl q
lower_through (negsuc a) (negsuc b) (negsuc c) p q = le-ltb c a (omega (arith, ltb-false b a p, ltb-false c b q))

-- things are ordered by a height of theirs
pub heights_order : {P : Type 0} (height : P → ℤ) → Order (λ (a b : P). lt_z (height a) (height b))
heights_order height = record {
  one_way = λ a b h. lower_one_way (height a) (height b) h;
  through = λ a b c p q. lower_through (height a) (height b) (height c) p q;
}

pub pressure_order : Order below_pressure
unfolding below_pressure
pressure_order = heights_order (λ (p : PressurePeak). p.height.0)

pub gps_order : Order below_gps
unfolding below_gps
gps_order = heights_order (λ (p : GpsPeak). p.height.0)

-- a test of the code's for less, and the definition's
pub less_earlier : (a b : ℕ) → ltb a b ≡ earlier a b
unfolding earlier
less_earlier a b =
    by_test (ltb a b)
    (λ e. e ∙ sym (yes≤ (omega (arith, ltb-true a b e))))
    (λ e. e ∙ sym (no≤ (omega (arith, ltb-false a b e))))

pub times_order : Order earlier
unfolding earlier
times_order = record {
  one_way = λ a b h. no≤ (omega (arith, is≤ h));
  through = λ a b c p q. no≤ (omega (arith, isnt≤ p, isnt≤ q));
}

-- ---- figures

module _ {P G : Type 0} {belowP : P → P → Bool} {belowG : G → G → Bool} (o : Order belowP) (g : Order belowG) where
  pub both_assoc : (a b c : Figures P G) →
      both belowP belowG (both belowP belowG a b) c ≡ both belowP belowG a (both belowP belowG b c)
  unfolding both
  both_assoc a b c =
      rw (
        add_assoc a.lines b.lines c.lines,
        added_assoc a.answers b.answers c.answers,
        add_assoc a.fixes b.fixes c.fixes,
        joined_assoc o a.pressure b.pressure c.pressure,
        joined_assoc g a.gps b.gps c.gps,
        joined_assoc times_order a.times b.times c.times,
      )

module _ {P G : Type 0} (belowP : P → P → Bool) (belowG : G → G → Bool) (f : Figures P G)
    (wide : length f.answers ≡ numbers) where
  pub both_empty : both belowP belowG f empty ≡ f
  unfolding both empty by_number
  both_empty =
      rw (
        add-zero f.lines,
        added_zeros numbers 0 f.answers wide,
        add-zero f.fixes,
        joined_none belowP f.pressure,
        joined_none belowG f.gps,
        joined_none earlier f.times,
      )

  pub empty_both : both belowP belowG empty f ≡ f
  unfolding both empty by_number
  empty_both =
      rw (
        zero-add f.lines,
        zeros_added numbers 0 f.answers wide,
        zero-add f.fixes,
        none_joined belowP f.pressure,
        none_joined belowG f.gps,
        none_joined earlier f.times,
      )
