-- A line of the listing. Fields are parted by one space, every printed line is closed by LF.
use Rattle.text.specs.Prelude.{None, Option, Some}
use Rattle.std.specs.Prelude.{◌∷◌, ◌++◌}
use Rattle.text.specs.Prelude.{ℕ, code, List, [], Res, pick, ◌≤?◌, ◌∧?◌, LF, byte}
use Rattle.b_record.specs.BRecord.{pressure_text, gps_text}
use Rattle.b_record.specs.declared.BRecord.{BRecord}
use Rattle.records.specs.Record.{answer_fix, answered}
use Rattle.records.specs.declared.{Record.Record}
use Rattle.trailer_text.specs.Answer.{plain}

-- The first byte if A to Z, else `-`.
unfoldable pub first_letter : List ℕ → ℕ
first_letter s = pick ((code "A" ≤? byte 0 s) ∧? (byte 0 s ≤? code "Z")) (byte 0 s) (code "-")

-- The letter and the answer.
unfoldable pub answer_text : List ℕ → Res Record → List ℕ
answer_text s m = (code " " ∷ []) ++ ((first_letter s ∷ []) ++ ((code " " ∷ []) ++ plain (answered m)))

-- The line's number, its letter and the answer.
unfoldable pub head_text : ℕ → List ℕ → Res Record → List ℕ
head_text n s m = plain n ++ answer_text s m

-- The pressure and GPS heights of a fix, in width 5.
unfoldable pub fix_heights : BRecord → List ℕ
fix_heights r = (code " " ∷ []) ++ (pressure_text 5 r.pressure_alt ++ ((code " " ∷ []) ++ gps_text 5 r.gps_alt))

-- The heights of a fix; nothing where there is none.
unfoldable pub heights_of : Option BRecord → List ℕ
heights_of (Some r) = fix_heights r
heights_of None = []

-- Line n with the text s, answered m: its head, and for an accepted B line its heights.
unfoldable pub listing_line : ℕ → List ℕ → Res Record → List ℕ
listing_line n s m = head_text n s m ++ (heights_of (answer_fix m) ++ (LF ∷ []))
