-- A walk whose report is carried as plain numbers, and which of its lines set a table.
use Rattle.text.specs.Prelude.{ℕ, code, Bool, List, Res, ok, no, ◌∨?◌, begins}
use Rattle.table.specs.declared.Table.{Table}
use Rattle.held.specs.declared.{Held.Held, tables.Tables.Tables}
use Rattle.report.specs.Report.{report_made}
use Rattle.walk.specs.declared.Walk.{Walk}
use Rattle.reported.specs.Flat.{flat_in}
use Rattle.reported.specs.declared.flat.Flat.{Flat}

-- The walk at a place and a line number, with these tables and the report of these figures.
unfoldable pub walk_from_of : Tables → List ℕ → Flat → ℕ → ℕ → Walk
walk_from_of held answers f place number =
    record { held = held; report = report_made (flat_in answers f); at = record { place = place; number = number } }

-- The line begins with I or J.
unfoldable pub sets_table_of : List ℕ → Bool
sets_table_of s = begins (code "I") s ∨? begins (code "J") s

-- What an I or a J line that was read so leaves of its letter: its table is in force, or where it is refused none.
unfoldable pub left_of : Res Table → Held
left_of (ok t) = Held.Set t
left_of (no n) = Held.Spoiled
