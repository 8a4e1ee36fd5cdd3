-- What the steps of a walk read, as readings of its lines, and this reader among readers of lines.
use Rattle.std.specs.Prelude.{◌≡◌, ◌∷◌}
use Rattle.text.specs.Prelude.{ℕ, zero, suc, code, List, [], length, Option, Some, None, Res, pick, begins}
use Rattle.std.specs.Prelude.{refl}
use Rattle.part.specs.Part.{bytes_of}
use Rattle.table.specs.Table.{read_table}
use Rattle.records.specs.Record.{read_line_of}
use Rattle.records.specs.declared.Record.{Record}
use Rattle.igc_log.specs.Log.{Reader, LineRead, Letter}
use Rattle.held.specs.Held.{set_by_of, held_after}
use Rattle.held.specs.Tables.{no_tables, tables_after}
use Rattle.held.specs.declared.{Held.Held, tables.Tables.Tables}
use Rattle.walk.specs.Walk.{step_of}
use Rattle.walk.specs.declared.Walk.{Walk}
use Rattle.part.specs.declared.Part.{Part}

-- This reader of lines: the answer to a line with its record, and the tables that I lines and J lines leave.
abbrev pub reader : Reader (Res Record) Tables
reader = record { read = read_line_of; after = λ p t s. tables_after t s; start = no_tables }

-- A line that begins with the letter sets or spoils the table, and no other touches it.
abbrev pub SetBy : ℕ → (Tables → Held) → Type 0
SetBy letter view = (p : ℕ) (t : Tables) (s : List ℕ) →
    view (tables_after t s) ≡ pick (begins letter s) (set_by_of (read_table s)) (view t)

-- So it is with I lines and the one table,
pub i_lines_set : SetBy (code "I") (λ t. t.i)
unfolding tables_after held_after
i_lines_set p t s = refl

-- and with J lines and the other.
pub j_lines_set : SetBy (code "J") (λ t. t.j)
unfolding tables_after held_after
j_lines_set p t s = refl

-- A letter with its table: an accepted line replaces it, a refused one spoils it.
abbrev table_letter : (letter : ℕ) (view : Tables → Held) → SetBy letter view → Letter reader Held
table_letter letter view law =
    record { view = view; begins = begins letter; leaves = λ s. set_by_of (read_table s); law = law }

-- I lines with their table.
abbrev pub letter_i : Letter reader Held
letter_i = table_letter (code "I") (λ t. t.i) i_lines_set

-- J lines with theirs.
abbrev pub letter_j : Letter reader Held
letter_j = table_letter (code "J") (λ t. t.j) j_lines_set

-- What a walk reads of one line.
abbrev pub LineReading : Type 0
LineReading = LineRead (Res Record) Tables

-- What a step has read, in front of what is read later; nothing where it is done.
unfoldable pub read_by : List ℕ → Option (Part × Res Record) → Walk → List LineReading → List LineReading
read_by s None w later = []
read_by s (Some (part, reading)) w later =
    record {
      number = w.at.number;
      place = part.start;
      line = bytes_of part s;
      answer = reading;
      held = w.held;
    } ∷ later

-- The readings of at most k steps of a walk, up to the one that is done.
unfoldable pub walked : ℕ → List ℕ → Walk → List LineReading
walked zero s w = []
walked (suc k) s w = read_by s (step_of s w).taken (step_of s w).walk (walked k s (step_of s w).walk)

-- The walk after k steps.
unfoldable pub after_steps : ℕ → List ℕ → Walk → Walk
after_steps zero s w = w
after_steps (suc k) s w = after_steps k s (step_of s w).walk

-- The walk at its end: a step takes a byte at least, so after as many steps as the log has bytes it is done.
unfoldable pub at_end_of : List ℕ → Walk → Walk
at_end_of s w = after_steps (length s) s w
