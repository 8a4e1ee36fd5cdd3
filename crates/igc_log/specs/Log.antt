-- A log as lines, and what a fresh walk reads of it, over any reader of a line.
use Rattle.std.specs.Prelude.{◌+◌, ◌≡◌, ◌∷◌}
use Rattle.text.specs.Prelude.{ℕ, Bool, true, List, [], length, pick, ◌=?◌, LF}
use Rattle.igc_log.specs.Line.{line_text}

-- A byte in front of the first line.
unfoldable pub push : ℕ → List (List ℕ) → List (List ℕ)
push b [] = (b ∷ []) ∷ []
push b (c ∷ cs) = (b ∷ c) ∷ cs

-- The lines of a log, each with the LF that closes it; the last may have none.
unfoldable pub chunks : List ℕ → List (List ℕ)
chunks [] = []
chunks (b ∷ s) = pick (b =? LF) ((b ∷ []) ∷ chunks s) (push b (chunks s))

-- Bytes from b on that end with an LF.
unfoldable pub closed_from : ℕ → List ℕ → Bool
closed_from b [] = b =? LF
closed_from b (x ∷ s) = closed_from x s

-- A run of whole lines: empty, or closed by an LF.
unfoldable pub closed : List ℕ → Bool
closed [] = true
closed (b ∷ s) = closed_from b s

-- A reader of lines: A is the answer with its fields, T is what a walk carries beside its place and its line number.
-- What it carries may go by the line's place too.
pub record Reader (A T : Type 0) : Type 0 where
  pub read : List ℕ → A
  pub after : ℕ → T → List ℕ → T
  pub start : T

-- What a walk reads of one line: its number from 1, its place, its text, the answer, and what is carried after it.
pub record LineRead (A T : Type 0) : Type 0 where
  pub number : ℕ
  pub place : ℕ
  pub line : List ℕ
  pub answer : A
  pub held : T

module _ {A T : Type 0} (R : Reader A T) where
  -- What is read of some lines, from a number of lines read so far, a place and what is carried on.
  unfoldable pub read_from : ℕ → ℕ → T → List (List ℕ) → List (LineRead A T)
  read_from n p t [] = []
  read_from n p t (c ∷ cs) =
      record {
        number = n + 1;
        place = p;
        line = line_text c;
        answer = R.read (line_text c);
        held = R.after p t (line_text c);
      }
      ∷ read_from (n + 1) (p + length c) (R.after p t (line_text c)) cs

  -- The readings of a fresh walk: every line of the log once, in order.
  unfoldable pub readings : List ℕ → List (LineRead A T)
  readings log = read_from 0 0 R.start (chunks log)

  -- One letter's table in what is carried: a line that begins with the letter sets it, and no other line touches it.
  pub record Letter (U : Type 0) : Type 0 where
    pub view : T → U
    pub begins : List ℕ → Bool
    pub leaves : List ℕ → U
    pub law : (p : ℕ) (t : T) (l : List ℕ) → view (R.after p t l) ≡ pick (begins l) (leaves l) (view t)
