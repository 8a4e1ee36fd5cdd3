use Rattle.text.specs.Prelude.{◌≡◌, length, digits}
use Rattle.text.proofs.Prelude.{sets}
use Rattle.print.proofs.number.put_digits.Given as goal

-- the i digits of what is left, put where they go, give what is asked
abbrev pub invariant-loop-i : goal.invariant-loop-i
invariant-loop-i l = record {
  same_length : length l.buf ≡ length l.initial.buf;
  asked : sets l.buf l.at (digits l.i l.rest) ≡ sets l.initial.buf l.at (digits l.k l.n);
}
