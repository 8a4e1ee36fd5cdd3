use Rattle.text.specs.Prelude.{ℕ, ◌-◌, ◌≤◌, ◌<◌, ◌≡◌, List, [], ◌∷◌, ◌++◌, length, take, replicate, largest}
use Rattle.text.specs.Prelude.{padded}
use Rattle.text.proofs.Prelude.{rules, arith, ap, came}
use Rattle.put.specs.Put.{Wrote}
use Rattle.put.proofs.Writing.{then, wrote_length}
use Rattle.block_read.specs.Read.{front_from}
use Rattle.block_read.specs.Held.{front_in}
use Rattle.block_read.proofs.Coming.{here}
use Rattle.block_read.proofs.Words.{front_some, front_none}
use Rattle.block_read.proofs.Numbers.{number_over, number_printed, printed_short, printed_whole}
use Rattle.block_read.proofs.number.read_number.Statement.{statement}
use Rattle.block_read.proofs.number.read_number.Tie as tie

-- the value of the digits in front
abbrev front : tie.Start → ℕ
front b = front_from 0 (here (b.args.text.now) b.args.from)

fits : (c : tie.In-Some) → c.in-Some.value ≡ front (search rules)
fits c = front_some _ (came (ap front_in c.in-Some.is) c.before.front.ensures)

over : (c : tie.In_default) → largest < front (search rules)
over c = front_none _ (came (ap front_in c.in_default.is) c.before.front.ensures)

-- the number as it prints, and the byte that closes it
abbrev closed : tie.Else-most-value → List ℕ
closed e = padded 1 e.before.in-Some.value ++
    (e.before.before.before.before.args.close ∷ [])

printed : (c : tie.After-put_byte-end) →
    Wrote (replicate 24 0) 0 (closed (search rules)) c.put_byte-end.new.buf c.put_byte-end.result
printed c = search (then)

short : (c : tie.Else-most-value) → length (closed c) ≤ 21
short c = printed_short _ _ (search rules)

ends : (c : tie.After-put_byte-end) → c.put_byte-end.result ≤ length c.put_byte-end.new.buf
ends c = omega (arith, (printed c).next, short (search rules), wrote_length (printed c))

whole : (c : tie.After-put_byte-end) → take (c.put_byte-end.result - 0) c.put_byte-end.new.buf ≡ closed (search rules)
whole c = printed_whole (printed c) (omega (arith, short (search rules)))

pub read_number_spec : {M : Type 1} → statement M
read_number_spec =
    tie.close
    (tie.spec
    (search rules) (search rules) (search rules) (search rules)
    (λ c. (number_over _ _ (omega (arith, over (search rules))) (search rules) c.wrong_at.ensures, search rules))
    (search rules)
    (λ c. (number_over _ _ (omega (arith, fits (search rules))) (search rules) c.wrong_at-then-most-value.ensures, search rules))
    (search rules) (search rules) (search rules) (search rules) (search rules) (search rules)
    (λ c. ends (search rules))
    (search rules)
    (λ c. (
      number_printed _ _ (fits (search rules)) (search rules)
          (rw (whole (search rules)) at c.read_words.ensures),
      search rules,
    )))
