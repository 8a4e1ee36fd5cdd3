-- A place in a log and the number of lines read so far.
use Rattle.std.specs.Prelude.{◌+◌}
use Rattle.text.specs.Prelude.{ℕ, List, Option, Some, None, length, pick, ◌≤?◌, ◌∧?◌, largest}
use Rattle.igc_log.specs.Line.{cut_at}
use Rattle.igc_log.specs.declared.Cut.{Cut}
use Rattle.cursor.specs.declared.Cursor.{Cursor}

-- Fresh walks start at place 0 and line number 0.
unfoldable pub start : Cursor
start = record { place = 0; number = 0 }

-- The cursor after the line that was cut.
unfoldable pub past : Cursor → Cut → Cursor
past c cut = record { place = cut.next; number = c.number + 1 }

-- The line at the place and the cursor after it; a place at or past the end, or the largest line number, is done.
unfoldable pub next_of : List ℕ → Cursor → Option (Cut × Cursor)
next_of s c =
    pick ((c.place + 1 ≤? length s) ∧? (c.number + 1 ≤? largest))
    (Some (cut_at c.place s, past c (cut_at c.place s)))
    None
