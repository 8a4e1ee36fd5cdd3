-- What the cut at a place tells of the lines that are left from there on.
use Rattle.std.specs.Prelude.{◌-◌, ◌≤◌, ◌<◌, ◌≡◌, ◌∷◌}
use Rattle.text.specs.Prelude.{ℕ, List, length, take, drop}
use Rattle.part.specs.Part.{part_bytes}
use Rattle.igc_log.specs.Line.{line_text, cut_at}
use Rattle.igc_log.specs.Log.{chunks}
use Rattle.igc_log.specs.declared.Cut.{Cut}

-- The bytes of the line that was cut at a place, its LF with them.
abbrev pub cut_bytes : List ℕ → ℕ → Cut → List ℕ
cut_bytes s at c = take (c.next - at) (drop at s)

-- It is the cut of the line that begins there.
pub record Ahead (s : List ℕ) (at : ℕ) (c : Cut) : Type 0 where
  pub cut : c ≡ cut_at at s
  -- Before the text's end this line is the first that is left, and the others are left from the next place on;
  pub first : at < length s → chunks (drop at s) ≡ cut_bytes s at c ∷ chunks (drop c.next s)
  -- its text begins at the place, and is what a view shows of it;
  pub line : at < length s → c.line ≡ record { start = at; len = length (line_text (cut_bytes s at c)) }
  pub text : at < length s → part_bytes c.line s ≡ line_text (cut_bytes s at c)
  -- and the next place lies behind this one, inside the text.
  pub next : at < length s → (at < c.next) × (c.next ≤ length s)
