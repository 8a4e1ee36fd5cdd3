use Rattle.text.specs.Prelude.{◌≤◌, ◌≡◌, true, List, ℕ, length}
use Rattle.text.proofs.Prelude.{refl, pass, second, yes≤, no≤, holds, fails, so_true, so_false}
use Rattle.field.specs.Field.{is_ascii_of, ascii, ascii_in}
use Rattle.b_record.specs.BRecord.{read_fix, read_b}
use Rattle.b_quick.specs.Quick.{plain_digits, is_plain, quick_of}
use Rattle.b_quick.proofs.quick_fix.Goals as goal

-- a line that passed the two tests
module _ (s : List ℕ) (long : 35 ≤ length s) (letters : is_ascii_of s ≡ true) where
  -- is plain where its digits are
  digits_decide : is_plain s ≡ plain_digits s
  unfolding is_plain
  digits_decide = holds (yes≤ long) (holds letters refl)

  -- and is read by its fields
  by_fields : read_fix s ≡ read_b s
  unfolding read_b ascii ascii_in
  by_fields = pass _ (yes≤ long) (pass _ letters refl)

pub returns-then-line-lt-BASE_LENGTH : goal.returns-then-line-lt-BASE_LENGTH
unfolding quick_of is_plain
returns-then-line-lt-BASE_LENGTH c = second _ (fails _ (no≤ c.if-line-lt-BASE_LENGTH.true)) refl

pub returns-then-not-is_ascii : goal.returns-then-not-is_ascii
unfolding quick_of is_plain
returns-then-not-is_ascii c =
    second _ (holds (yes≤ c.if-line-lt-BASE_LENGTH.false)
    (fails _ (so_false c.is_ascii.ensures c.if-not-is_ascii.true))) refl

pub returns : goal.returns
unfolding quick_of
returns c =
    let long = c.if-line-lt-BASE_LENGTH.false in
    let letters = so_true c.is_ascii.ensures c.if-not-is_ascii.false in
    rw (digits_decide c.args.line.now long letters, ← by_fields c.args.line.now long letters) c.plain_fix.ensures
