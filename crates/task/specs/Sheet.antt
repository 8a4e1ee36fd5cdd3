-- A task's sheet, what a printer of it answers, and what that leaves in the lent bytes.
use Rattle.text.specs.Prelude.{no, ok}
use Rattle.std.specs.Prelude.{Option, Some, None, Result}
use Rattle.std.specs.Prelude.{◌+◌, ◌≡◌, ◌∷◌, ◌++◌}
use Rattle.text.specs.Prelude.{ℕ, zero, suc, Bool, true, false, List, [], length, drop, pick}
use Rattle.text.specs.Prelude.{ℤ, pos, negsuc, ◌≤?◌}
use Rattle.task_line.specs.Lines.{TaskLine, declaration, point, other, task_lines}
use Rattle.task_text.specs.Points.{points_text}
use Rattle.task.specs.declared.lines.Declared.{Declared}
use Rattle.task.specs.declared.{TaskRefusal.TaskRefusal}
use Rattle.task.specs.declared.TaskRefusal.TheVariants.{NoDeclaration, NegativeCount, Interrupted, NoRoom}

-- ---- the task

-- No declaration; or the count of one, and the lines after it.
pub data Task : Type 0 where
  missing : Task
  declared : ℤ → List TaskLine → Task

-- The first declaration among some lines.
unfoldable pub first_declaration : List TaskLine → Task
first_declaration [] = missing
first_declaration (declaration count ∷ later) = declared count later
first_declaration (point r line ∷ later) = first_declaration later
first_declaration (other ∷ later) = first_declaration later

-- The first k lines are points; no others stand between them.
unfoldable pub are_points_of : ℕ → List TaskLine → Bool
are_points_of zero ls = true
are_points_of (suc k) [] = false
are_points_of (suc k) (declaration count ∷ ls) = false
are_points_of (suc k) (point r line ∷ ls) = are_points_of k ls
are_points_of (suc k) (other ∷ ls) = false

-- ---- its sheet

-- A sheet's text, or a refusal and no sheet.
pub data Sheet : Type 0 where
  sheet : List ℕ → Sheet
  refused : TaskRefusal → Sheet

-- The sheet of k points: 18 where the next k lines are not all points.
unfoldable pub sheet_from : List ℕ → ℕ → List TaskLine → Sheet
sheet_from labels k ls = pick (are_points_of k ls) (sheet (points_text labels 1 k ls)) (refused Interrupted)

-- No declaration is 16, a negative count 17; then takeoff, start, as many turns as the count says, finish and landing.
unfoldable pub sheet_after : List ℕ → Task → Sheet
sheet_after labels missing = refused NoDeclaration
sheet_after labels (declared (negsuc k) later) = refused NegativeCount
sheet_after labels (declared (pos count) later) = sheet_from labels (count + 4) later

-- The sheet of a log beside the club's labels.
unfoldable pub sheet_of : List ℕ → List ℕ → Sheet
sheet_of log labels = sheet_after labels (first_declaration (task_lines log))

-- ---- printing it

-- The length written; the sheet's own refusal first, then 10 exactly where it is longer than the bytes lent.
unfoldable pub answer_to : Sheet → List ℕ → Result ℕ TaskRefusal
answer_to (sheet t) b = pick (length t ≤? length b) (ok (length t)) (no NoRoom)
answer_to (refused n) b = no n

-- The bytes afterwards: the sheet and then what stood behind it; a refused call changes nothing.
unfoldable pub left_by : Sheet → List ℕ → List ℕ
left_by (sheet t) b = pick (length t ≤? length b) (t ++ drop (length t) b) b
left_by (refused n) b = b

-- A printer of a sheet answers r and leaves b' where b was lent.
pub record PrintsSheet (m : Sheet) (b b' : List ℕ) (r : (Result ℕ TaskRefusal)) : Type 0 where
  pub answer : r ≡ answer_to m b
  pub left : b' ≡ left_by m b

-- The number that the papers give a refusal.
abbrev pub task_number : TaskRefusal → ℕ
task_number NoDeclaration = 16
task_number NegativeCount = 17
task_number Interrupted = 18
task_number NoRoom = 10

-- ---- the answers of the code

-- A declaration's count, and the lines from the next place on.
abbrev pub declared_in : List ℕ → Option Declared → Task
declared_in log None = missing
declared_in log (Some d) = declared d.count (task_lines (drop d.next log))

-- How many points a count asks for.
unfoldable pub size_of : ℤ → Result ℕ TaskRefusal
size_of (pos count) = ok (count + 4)
size_of (negsuc k) = no NegativeCount
