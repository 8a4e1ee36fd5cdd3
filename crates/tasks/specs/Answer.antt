-- What the program makes of the bytes that it read.
use Rattle.std.specs.Prelude.{◌≡◌, ◌∷◌, ◌++◌, Option, Some, None, Result, Ok, Err}
use Rattle.text.specs.Prelude.{ℕ, List, [], take, LF, padded}
use Rattle.text.specs.Spelt.{spelt}
use Rattle.files.specs.declared.{input.Filled.Filled, input.NotRead.NotRead}
use Rattle.task.specs.Sheet.{Sheet, sheet_of, task_number, answer_to, left_by}
use Rattle.task.specs.declared.TaskRefusal.{TaskRefusal}

-- How many bytes a file has that was read to its end. Where lent bytes are full there may be more, and where a read
-- failed too: then there are none to go by.
abbrev pub whole_in : Result Filled NotRead → Option ℕ
whole_in (Ok (Filled.Ended n)) = Some n
whole_in (Ok Filled.Full) = None
whole_in (Err e) = None

-- The sheet of the first bytes of the one and of the other, where both were read to their end.
abbrev pub sheet_in : Option ℕ → List ℕ → Option ℕ → List ℕ → Option Sheet
sheet_in None log w labels = None
sheet_in (Some n) log None labels = None
sheet_in (Some n) log (Some m) labels = Some (sheet_of (take n log) (take m labels))

-- What a printer answers of that sheet; without one, nothing.
abbrev pub answer_for : Option Sheet → List ℕ → Option (Result ℕ TaskRefusal)
answer_for None b = None
answer_for (Some m) b = Some (answer_to m b)

-- What it leaves; without one, the bytes as they were.
abbrev pub left_for : Option Sheet → List ℕ → List ℕ
left_for None b = b
left_for (Some m) b = left_by m b

-- The answer is r, and b' is left where b was lent.
pub record Answers (m : Option Sheet) (b b' : List ℕ) (r : Option (Result ℕ TaskRefusal)) : Type 0 where
  pub answer : r ≡ answer_for m b
  pub left : b' ≡ left_for m b

-- ---- a refusal in words

-- Why there is no sheet.
unfoldable pub words_of : TaskRefusal → List ℕ
words_of TaskRefusal.NoDeclaration = spelt "no declaration"
words_of TaskRefusal.NegativeCount = spelt "negative count"
words_of TaskRefusal.Interrupted = spelt "too few or interrupted turnpoints"
words_of TaskRefusal.NoRoom = spelt "no room for the sheet"

-- As `task: 16, no declaration`.
unfoldable pub refusal_text : TaskRefusal → List ℕ
refusal_text n = spelt "task: " ++ (padded 1 (task_number n) ++ (spelt ", " ++ (words_of n ++ (LF ∷ []))))
