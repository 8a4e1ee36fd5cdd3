use Rattle.text.specs.Prelude.{ℕ, ◌+◌, ◌*◌, ◌≤◌, ◌<◌, ◌≡◌, List, length, ok, byte, first_other_of}
use Rattle.text.proofs.Prelude.{arith, ap, ◌∙◌}
use Rattle.field.proofs.Digits.{digit_at, none_found}
use Rattle.satellites.proofs.Reading.{odd_refused, other_refused, digits_read, adding_none, pair_added, all_added}
use Rattle.satellites.proofs.Satellites.parse.Goals as goal

-- the two digits of a turn
digits : (s : List ℕ) (i : ℕ) → length s ≤ first_other_of s → i + 1 < length s
    → (48 ≤ byte i s) × (byte i s ≤ 57) × (48 ≤ byte (i + 1) s) × (byte (i + 1) s ≤ 57)
digits s i plain h =
    let ds = none_found s plain in
    let tens = digit_at s i ds (omega arith) in
    let ones = digit_at s (i + 1) ds h in
    (tens.0, tens.1, ones.0, ones.1)

pub returns-then-text-ne0 : goal.returns-then-text-ne0
returns-then-text-ne0 c = odd_refused _ c.if-text-ne0.true

pub returns-then-other-text : goal.returns-then-other-text
returns-then-other-text c =
    other_refused _ c.if-text-ne0.false c.first_other-other.ensures c.if-other-text.true

pub loop-k-init : goal.loop-k-init
loop-k-init c = adding_none _

pub overflow_sub-tens : goal.overflow_sub-tens
overflow_sub-tens c = omega (arith, digits c.args.text.now (2 * c.loop-k.k) (omega arith) (omega arith))

pub overflow_sub-ones : goal.overflow_sub-ones
overflow_sub-ones c = omega (arith, digits c.args.text.now (2 * c.loop-k.k) (omega arith) (omega arith))

pub overflow_mul-tens-in-loop-k : goal.overflow_mul-tens-in-loop-k
overflow_mul-tens-in-loop-k c =
    record { fits = omega (arith, digits c.args.text.now (2 * c.loop-k.k) (omega arith) (omega arith)) }

pub overflow_add-tens : goal.overflow_add-tens
overflow_add-tens c =
    record { fits = omega (arith, digits c.args.text.now (2 * c.loop-k.k) (omega arith) (omega arith)) }

pub loop-k-preserved : goal.loop-k-preserved
loop-k-preserved c =
    let next : 2 * (c.loop-k.k + 1) ≡ 2 * c.loop-k.k + 2 = omega arith in
    rw (c.with-heard.ensures, next) (pair_added _ (2 * c.loop-k.k) _ c.loop-k.invariant (omega arith))

pub returns : goal.returns
returns c =
    ap ok (all_added _ (2 * c.loop-k.k) _ c.loop-k.invariant (omega arith))
    ∙ digits_read _ c.if-text-ne0.false (none_found _ (omega arith))
