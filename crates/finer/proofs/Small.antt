-- No number comes near the end of 64 bits.
use Rattle.text.specs.Prelude.{ℕ, ◌+◌, ◌*◌, ◌^◌, ◌≤◌, ◌<◌, pos}
use Rattle.text.proofs.Prelude.{arith, refl, subst, first, second, by_test}
use Rattle.text.proofs.Signs.{neg_fits}
use native.Mathlib.Nat.{mul-le-mul_right, pow-le-pow_right}
use lib.IntN.{neg_ℤ}
use mir.Syntax.{w64}
use mir.Val.{SFits}
use Rattle.raw_coord.specs.declared.{Compass.Compass, RawCoord.RawCoord}
use Rattle.finer.specs.Finer.{thousandths, is_negative_of, toward}

-- at most five digits
pub power_le : (n : ℕ) → n ≤ 5 → 10 ^ n ≤ 100000
power_le n h = pow-le-pow_right {n = 10} (omega arith) {i = n} {j = 5} h

-- a number with digits behind it, by the power of their number
pub scaled_small : (m n : ℕ) → m ≤ 15365535 → n ≤ 5 → m * 10 ^ n ≤ 15365535 * 100000
scaled_small m n h l = omega (arith, mul-le-mul_right {m = m} {n = 15365535} (10 ^ n) h, power_le n l)

pub fits : (c : RawCoord) (n d : ℕ) → c.degrees ≤ 255 → c.minute_thousandths ≤ 65535 → n ≤ 5 → d < 10 ^ n →
    thousandths c * 10 ^ n + d < 10 ^ 13
unfolding thousandths
fits c n d g t l h = omega (arith, scaled_small (thousandths c) n (omega arith) l, power_le n l)

-- in either direction
pub toward_fits : (sign : Compass) {m : ℕ} → m < 10 ^ 13 → SFits w64 (toward sign m)
unfolding toward
toward_fits sign {m} h =
    by_test (is_negative_of sign)
    (λ e. subst (SFits w64) (first (pos m) e refl) (neg_fits w64 m (omega arith)))
    (λ e. subst (SFits w64) (second (neg_ℤ (pos m)) e refl) (record { sfits = omega arith }))
