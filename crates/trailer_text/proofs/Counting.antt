-- The figures over one reading more.
use Rattle.text.specs.Prelude.{ℕ, ◌+◌, ◌≤◌, ◌<◌, ◌≡◌, List, Res, largest}
use Rattle.text.proofs.Prelude.{arith, refl, sym, first, yes≤, holds}
use Rattle.records.specs.declared.Record.{Record}
use Rattle.walk.specs.Readings.{LineReading}
use Rattle.walk.proofs.Turns.{one_at_most}
use Rattle.trailer_text.specs.Trailer.{is_refusal_of, counted, tallied, count_step}
use Rattle.trailer_text.specs.declared.Trailer.{Trailer}

-- counts below the largest number go up by a reading
pub tallied_is : (t : Trailer) (p : ℕ) (s : List ℕ) (m : Res Record) → t.lines < largest → t.refused < largest →
    tallied t p s m ≡ counted t p s m
unfolding tallied
tallied_is t p s m h k = sym (first _ (holds (yes≤ (omega arith)) (yes≤ (omega arith))) refl)

-- a line raises the count of refused lines by at most one
pub one_refused : (t : Trailer) (x : LineReading) → (count_step t x).refused ≤ t.refused + 1
unfolding count_step counted
one_refused t x = omega (arith, one_at_most (is_refusal_of x.answer))
