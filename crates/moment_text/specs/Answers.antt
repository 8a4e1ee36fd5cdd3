-- The answers to times asked as HHMMSS, as text.
use Rattle.std.specs.Prelude.{◌/◌, ◌∷◌, ◌++◌}
use Rattle.text.specs.Prelude.{ℕ, zero, suc, code, Bool, List, [], length, take, drop, ◌=?◌, ◌∧?◌, LF}
use Rattle.text.specs.Prelude.{all_digits_of}
use Rattle.time.specs.Time.{read_time_of}
use Rattle.b_record.specs.BRecord.{pressure_text, gps_text}
use Rattle.b_record.specs.declared.BRecord.{BRecord}
use Rattle.igc_log.specs.Fold.{texts}
use Rattle.moment_fix.specs.Fix.{moment_number}
use Rattle.moment_fix.specs.declared.Moment.{Moment}
use Rattle.moment.specs.Moment.{by_walk}
use Rattle.piece_text.specs.Piece.{number_shown}

-- A time is asked for by six digits.
unfoldable pub is_asked_of : List ℕ → Bool
is_asked_of word = (length word =? 6) ∧? all_digits_of word

-- The pressure height and the GPS height of a fix, in width 5.
unfoldable pub heights_text : BRecord → List ℕ
heights_text b =
    (code " " ∷ []) ++ (pressure_text 5 b.pressure_alt ++ ((code " " ∷ []) ++ gps_text 5 b.gps_alt))

-- The place of what was found, and its heights; else nothing.
unfoldable pub found_text : Moment → List ℕ
found_text (Moment.Found p b) = number_shown p ++ heights_text b
found_text Moment.NoSuchFix = []
found_text (Moment.Refused n) = []

-- A line: the time as asked, the answer, and for 0 what was found.
unfoldable pub moment_line : List ℕ → Moment → List ℕ
moment_line word a = word ++ (number_shown (moment_number a) ++ (found_text a ++ (LF ∷ [])))

-- k words of six bytes each.
unfoldable pub sixes : ℕ → List ℕ → List (List ℕ)
sixes zero s = []
sixes (suc k) s = take 6 s ∷ sixes k (drop 6 s)

-- The words that some bytes hold; what is left over is no word.
unfoldable pub words_in : List ℕ → List (List ℕ)
words_in s = sixes (length s / 6) s

-- The line of one word: the time that it reads as, answered by the plain walk.
unfoldable pub answer_line : List ℕ → List ℕ → List ℕ
answer_line log word = moment_line word (by_walk log (read_time_of word))

-- The whole text.
unfoldable pub moments_text : List ℕ → List ℕ → List ℕ
moments_text log words = texts (answer_line log) (words_in words)
