-- Digits dropped, and degrees, once over the sign and the number of digits.
use Rattle.text.specs.Prelude.{ℕ, zero, suc, ◌+◌, ◌*◌, ◌/◌, ◌^◌, ◌≤◌, ◌<◌, ◌≡◌, Bool, true, false, pos}
use Rattle.text.specs.Prelude.{pick}
use Rattle.text.proofs.Prelude.{arith, refl, sym, ap, ◌∙◌}
use native.Mathlib.Nat.{zero-div, add-mul, mul_assoc, mul_left_comm, one-mul, one-le-pow, pow-suc}
use lib.Arith.{digits_div}
use lib.IntN.{neg_ℤ, nat_abs}
use Rattle.raw_coord.specs.declared.{Compass.Compass, RawCoord.RawCoord}
use Rattle.finer.specs.Finer.{thousandths, is_negative_of, toward, plainly, finely}
use Rattle.finer.specs.Laws.{dropped, ◌⊕◌, Equal, in_degrees}

-- ---- once over the sign

minus_dropped : (n m : ℕ) → dropped n (neg_ℤ (pos m)) ≡ neg_ℤ (pos (m / 10 ^ n))
unfolding dropped
minus_dropped n zero = rw zero-div
minus_dropped n (suc m) = refl

-- digits are dropped from a number as from its distance from 0
toward_dropped : (sign : Compass) (n m : ℕ) → dropped n (toward sign m) ≡ toward sign (m / 10 ^ n)
unfolding toward pick dropped
toward_dropped sign n m = by (is_negative_of sign)
  where
    by : (t : Bool) → dropped n (pick t (neg_ℤ (pos m)) (pos m)) ≡ pick t (neg_ℤ (pos (m / 10 ^ n))) (pos (m / 10 ^ n))
    by true = minus_dropped n m
    by false = refl

minus_distance : (m : ℕ) → nat_abs (neg_ℤ (pos m)) ≡ m
minus_distance zero = refl
minus_distance (suc m) = refl

-- its distance from 0
toward_distance : (sign : Compass) (m : ℕ) → nat_abs (toward sign m) ≡ m
unfolding toward pick
toward_distance sign m = by (is_negative_of sign)
  where
    by : (t : Bool) → nat_abs (pick t (neg_ℤ (pos m)) (pos m)) ≡ m
    by true = minus_distance m
    by false = refl

-- ---- the number, over its digits

pub drops : (c : RawCoord) (n d : ℕ) → d < 10 ^ n → dropped n (finely n d c).value ≡ (plainly c).value
unfolding finely plainly
drops c n d h =
    toward_dropped c.sign n (thousandths c * 10 ^ n + d)
    ∙ ap (toward c.sign) (digits_div (thousandths c) h)

pub directed : (c : RawCoord) (n d : ℕ) → (finely n d c).value ≡ toward c.sign (nat_abs (finely n d c).value)
unfolding finely
directed c n d = ap (toward c.sign) (sym (toward_distance c.sign (thousandths c * 10 ^ n + d)))

-- parts with n digits more in a degree
in_a_degree : (n : ℕ) → 60 * 10 ^ (3 + n) ≡ 60000 * 10 ^ n
in_a_degree n =
    let e : 3 + n ≡ suc (suc (suc n)) = omega arith in
    rw (e, pow-suc, pow-suc, pow-suc) (omega arith)

-- the same number of them, counted in the parts of either fraction
counted : (g t d p : ℕ) → g * (60000 * (60000 * p)) + (t * (60000 * p) + d * 60000) * 1
    ≡ ((g * 60000 + t) * p + d) * 60000
counted g t d p =
    rw (
      mul_left_comm g 60000 (60000 * p),
      mul_left_comm g 60000 p,
      mul_left_comm t 60000 p,
      add-mul (g * 60000) t p,
      mul_assoc g 60000 p,
      mul_left_comm g 60000 p,
    )
    (omega arith)

pub exact : (c : RawCoord) (n d : ℕ) →
    Equal (record { parts = nat_abs (finely n d c).value; of = 60000 * 10 ^ n }) (in_degrees n d c)
unfolding finely in_degrees ◌⊕◌ thousandths
exact c n d =
    let p = 10 ^ n in
    let some : 1 ≤ p = one-le-pow n 10 (omega arith) in
    let m = (c.degrees * 60000 + c.minute_thousandths) * p + d in
    record {
      cross = rw (
        toward_distance,
        in_a_degree,
        counted c.degrees c.minute_thousandths d p,
        one-mul,
      )
          (sym (mul_assoc m 60000 (60000 * p)));
      some = (omega arith, rw in_a_degree (omega arith));
    }
