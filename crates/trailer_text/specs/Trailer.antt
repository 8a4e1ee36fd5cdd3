-- The trailer: T, lines, lines answered 1 to 5, byte offset of the I line in force at the end, or `-`.
use Rattle.text.specs.Prelude.{None, Option, Some}
use Rattle.std.specs.Prelude.{◌+◌, ◌∷◌, ◌++◌}
use Rattle.text.specs.Prelude.{ℕ, code, Bool, List, [], Res, pick, ◌≤?◌, ◌=?◌, ◌∧?◌, LF, begins}
use Rattle.text.specs.Prelude.{largest}
use Rattle.records.specs.Record.{answered}
use Rattle.records.specs.declared.Record.{Record}
use Rattle.walk.specs.Readings.{LineReading}
use Rattle.trailer_text.specs.Answer.{plain}
use Rattle.trailer_text.specs.declared.{Trailer.Trailer}

-- An answer from 1 to 5.
unfoldable pub is_refusal_of : Res Record → Bool
is_refusal_of m = (1 ≤? answered m) ∧? (answered m ≤? 5)

-- The I line in force after a line at a place: an accepted line that begins with I is, after a refused one there is
-- none.
unfoldable pub force_after : Option ℕ → ℕ → List ℕ → Res Record → Option ℕ
force_after o p s m = pick (begins (code "I") s) (pick (answered m =? 0) (Some p) None) o

-- Over no readings.
unfoldable pub nothing : Trailer
nothing = record { lines = 0; refused = 0; in_force = None }

-- Over one reading more, of a line with the text s at the place p, answered m.
unfoldable pub counted : Trailer → ℕ → List ℕ → Res Record → Trailer
counted t p s m = record {
  lines = t.lines + 1;
  refused = t.refused + pick (is_refusal_of m) 1 0;
  in_force = force_after t.in_force p s m;
}

-- The same in numbers of 64 bits: where a count would pass them, the figures stay.
unfoldable pub tallied : Trailer → ℕ → List ℕ → Res Record → Trailer
tallied t p s m = pick ((t.lines + 1 ≤? largest) ∧? (t.refused + 1 ≤? largest)) (counted t p s m) t

-- Over one reading more, as a step.
unfoldable pub count_step : Trailer → LineReading → Trailer
count_step t x = counted t x.place x.line x.answer

-- ---- its text

-- The place, or a dash for none.
unfoldable pub offset_text : Option ℕ → List ℕ
offset_text None = code "-" ∷ []
offset_text (Some p) = plain p

-- The two counts.
unfoldable pub figures : Trailer → List ℕ
figures t = (code " " ∷ []) ++ (plain t.lines ++ ((code " " ∷ []) ++ plain t.refused))

-- T, the counts, the place, and an LF.
unfoldable pub trailer_text_of : Trailer → List ℕ
trailer_text_of t = (code "T" ∷ []) ++ (figures t ++ ((code " " ∷ []) ++ (offset_text t.in_force ++ (LF ∷ []))))
