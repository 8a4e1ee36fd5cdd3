use Rattle.text.specs.Prelude.{ℕ, ◌≤◌, ◌≡◌, true, pos}
use borrow.Author.Tests.{not-true, not-false}
use Rattle.text.proofs.Prelude.{rules, arith}
use lib.IntN.{neg_ℤ}
use mir.Syntax.{w16, w32}
use mir.Facts.{to_z_pos}
use Rattle.text.proofs.Signs.{zero_minus, neg_fits, narrows, narrowed}
use Rattle.block_read.proofs.Numbers.{some_read, none_read, height_up, height_down}
use Rattle.block_read.proofs.number.read_height.Statement.{statement}
use Rattle.block_read.proofs.number.read_height.Tie as tie

up : tie.Need-returns-then-not-minus
up c =
    let m : tie.After-read_words-minus = search rules in
    let t : tie.Then-not-minus = search rules in
    let n : tie.After-read_number-up = search rules in
    rw (to_z_pos w16 {n = n.read_number-up.result.value} (omega arith))
    (height_up m.read_words-minus.ensures (not-true _ t.if-not-minus.true) n.read_number-up.ensures.0)

-- the number behind a minus
abbrev value : tie.After-read_number-down → ℕ
value n = n.read_number-down.result.value

minus : (e : tie.Else-not-minus) → e.before.before.read_words-minus.result.good ≡ true
minus e = not-false _ e.if-not-minus.false

none : tie.Need-returns-then-down-eq0
none c =
    let m : tie.After-read_words-minus = search rules in
    let n : tie.After-read_number-down = search rules in
    height_down m.read_words-minus.ensures (minus (search rules))
    (none_read (λ v. neg_ℤ (pos v)) _ _ n.read_number-down.ensures.0 (search rules) (search rules)
    c.wrong_at.ensures)

small : (n : tie.After-read_number-down) → value n ≤ 32768
small n = n.read_number-down.ensures.1

sub : tie.Need-overflow_sub-result
sub c =
    let n : tie.After-read_number-down = search rules in
    let h = small n in
    rw (to_z_pos w32 {n = value n} (omega arith), zero_minus) (neg_fits w32 (value n) (omega arith))

cast : tie.Need-overflow_cast-result-3
cast c =
    let n : tie.After-read_number-down = search rules in
    let h = small n in
    rw (to_z_pos w32 {n = value n} (omega arith), zero_minus) (narrows w16 w32 tt (neg_fits w16 (value n) h))

down : tie.Need-returns
down c =
    let m : tie.After-read_words-minus = search rules in
    let n : tie.After-read_number-down = search rules in
    let h = small n in
    rw (to_z_pos w32 {n = value n} (omega arith), zero_minus, narrowed w16 w32 tt (neg_fits w16 (value n) h))
    (height_down m.read_words-minus.ensures (minus (search rules))
    (some_read (λ v. neg_ℤ (pos v)) _ _ n.read_number-down.ensures.0 (search rules)))

pub read_height_spec : {M : Type 1} → statement M
read_height_spec =
    tie.close
    (tie.spec
    (search rules) (search rules) (search rules)
    up
    (search rules) (search rules)
    none
    (search rules)
    sub
    cast
    down)
