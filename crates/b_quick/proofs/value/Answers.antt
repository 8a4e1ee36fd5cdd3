use Rattle.text.specs.Prelude.{ℕ, ◌+◌, ◌-◌, ◌*◌, ◌≤◌, ◌<◌, ◌≡◌, true, List, length, drop, get_or}
use Rattle.text.specs.Prelude.{all_digits_of, value_from}
use Rattle.text.proofs.Prelude.{arith, drop-cons, drop_of_length-le}
use native.Mathlib.Numerals.{add-one}
use Rattle.text.proofs.Decimal.{head_digit, value_ge, value_below}
use Rattle.b_quick.proofs.value.Goals as goal

-- a turn of the loop: what is left from i on has digits alone
module _ (s : List ℕ) (i v : ℕ) (inside : i < length s) (left : all_digits_of (drop i s) ≡ true) where
  -- the byte at i, and those after it
  here : (48 ≤ get_or s i 0) × (get_or s i 0 ≤ 57) × (all_digits_of (drop (i + 1) s) ≡ true)
  here = rw add-one (head_digit _ _ (rw (drop-cons s i 0 inside) at left))

  module _ (value : value_from v (drop i s) ≡ value_from 0 s) where
    next : value_from (v * 10 + (get_or s i 0 - 48)) (drop (i + 1) s) ≡ value_from 0 s
    unfolding value_from
    next = rw add-one (rw (drop-cons s i 0 inside) at value)

    -- the value so far is at most that of the whole, which has five digits at most
    five : all_digits_of s ≡ true → length s ≤ 5 → v * 10 + (get_or s i 0 - 48) ≤ 99999
    five digits short =
        omega (
          arith,
          rw next at (value_ge (v * 10 + (get_or s i 0 - 48)) (drop (i + 1) s)),
          value_below 5 s digits short,
        )

pub overflow_mul-v : goal.overflow_mul-v
overflow_mul-v c =
    let l = c.loop-d in
    omega (arith, five _ _ _ c.loop-d-test.true l.invariant.digits l.invariant.value c.requires.0 c.requires.1)

pub overflow_sub-v : goal.overflow_sub-v
overflow_sub-v c = (here _ _ c.loop-d.v c.loop-d-test.true c.loop-d.invariant.digits).0

pub overflow_add-v : goal.overflow_add-v
overflow_add-v c =
    let l = c.loop-d in
    omega (arith, five _ _ _ c.loop-d-test.true l.invariant.digits l.invariant.value c.requires.0 c.requires.1)

pub loop-d-preserved : goal.loop-d-preserved
loop-d-preserved c = record {
  digits = (here _ _ c.loop-d.v c.loop-d-test.true c.loop-d.invariant.digits).2;
  value = next _ _ _ c.loop-d-test.true c.loop-d.invariant.digits c.loop-d.invariant.value;
}

pub returns : goal.returns
unfolding value_from
returns c = rw (drop_of_length-le c.args.digits.now c.loop-d-test.false) at c.loop-d.invariant.value
