-- A product of a log: one reading after the other.
use Rattle.std.specs.Prelude.{◌+◌, ◌∷◌, ◌++◌}
use Rattle.text.specs.Prelude.{ℕ, List, [], length}
use Rattle.std.proofs.Math.Option.{Option, none, some}
use Rattle.igc_log.specs.Line.{line_text}
use Rattle.igc_log.specs.Log.{chunks, Reader, LineRead, read_from}

-- The first of two that is something.
unfoldable pub or_else : {T : Type 0} → Option T → Option T → Option T
or_else none later = later
or_else (some b) later = some b

module _ {X T : Type 0} where
  -- What a step makes of some readings, one after the other, from a start.
  unfoldable pub over : (T → X → T) → T → List X → T
  over step a [] = a
  over step a (x ∷ xs) = over step (step a x) xs

  -- What the first of them has that has something.
  unfoldable pub first_with : (X → Option T) → List X → Option T
  first_with f [] = none
  first_with f (x ∷ xs) = or_else (f x) (first_with f xs)

  -- The same as a step: what was found first stays.
  unfoldable pub keep : (X → Option T) → Option T → X → Option T
  keep f a x = or_else a (f x)

-- The texts of some readings.
unfoldable pub texts : {X : Type 0} → (X → List ℕ) → List X → List ℕ
texts f [] = []
texts f (x ∷ xs) = f x ++ texts f xs

-- What goes from line to line: how many were read, the place, what is held (tables), and what the step has made so far.
pub record Carried (H T : Type 0) : Type 0 where
  pub number : ℕ
  pub place : ℕ
  pub held : H
  pub made : T

module _ {A H T : Type 0} (R : Reader A H) where
  -- Before the first line.
  abbrev pub fresh : T → Carried H T
  fresh a = record { number = 0; place = 0; held = R.start; made = a }

  -- What is read there of a line with that text.
  abbrev pub read_at_of : Carried H T → List ℕ → LineRead A H
  read_at_of c l = record {
    number = c.number + 1;
    place = c.place;
    line = l;
    answer = R.read l;
    held = R.after c.place c.held l;
  }

  -- What is read of some bytes, from there on.
  unfoldable pub read_on : Carried H T → List ℕ → List (LineRead A H)
  read_on c s = read_from R c.number c.place c.held (chunks s)

  module _ (step : T → LineRead A H → T) where
    -- After a line with that text, which takes so many bytes.
    unfoldable pub past_line : Carried H T → List ℕ → ℕ → Carried H T
    past_line c l width = record {
      number = c.number + 1;
      place = c.place + width;
      held = R.after c.place c.held l;
      made = step c.made (read_at_of c l);
    }

    -- After some lines.
    unfoldable pub past_lines : Carried H T → List (List ℕ) → Carried H T
    past_lines c [] = c
    past_lines c (k ∷ ks) = past_lines (past_line c (line_text k) (length k)) ks

    -- After all lines of some bytes.
    unfoldable pub fed : Carried H T → List ℕ → Carried H T
    fed c s = past_lines c (chunks s)
