-- The total of a sheet: its last block.
use Rattle.std.specs.Prelude.{Result, ◌+◌, ◌-◌, ◌∷◌}
use Rattle.text.specs.Prelude.{ℕ, Bool, true, ok, no, List, [], length, take, pick, ◌=?◌, ◌∧?◌, LF}
use Rattle.text.specs.Spelt.{spelt}
use Rattle.total.specs.Total.{Totals, total_in}
use Rattle.total.specs.declared.Total.{Total}
use Rattle.block_read.specs.Read.{Read, got, wrong, next, starts_with}
use Rattle.block_read.specs.Block.{read_all}
use Rattle.sheet_read.specs.declared.Wrong.{Wrong}

-- The text from its first line on that begins with `all `; whether it stands at a line's start is said beside it.
unfoldable pub from_all_of : Bool → List ℕ → List ℕ
from_all_of start [] = []
from_all_of start (b ∷ s) = pick (start ∧? starts_with (spelt "all ") (b ∷ s)) (b ∷ s) (from_all_of (b =? LF) s)

-- How many lines end in a text.
unfoldable pub ends : List ℕ → ℕ
ends [] = 0
ends (b ∷ s) = pick (b =? LF) 1 0 + ends s

-- The number of the line, from 1, in which the text r begins that s ends with.
unfoldable pub line_at : List ℕ → List ℕ → ℕ
line_at s r = ends (take (length s - length r) s) + 1

-- The total of a sheet; or the line at which it is none.
pub data Sheet : Type 0 where
  whole : Totals → Sheet
  no_sheet : ℕ → Sheet

unfoldable pub sheet_of : List ℕ → Read Totals → Sheet
sheet_of s (got t r) = whole t
sheet_of s (wrong r) = no_sheet (line_at s r)

-- What stands before the first line that begins with `all ` are the blocks of single logs; from there on stands the
-- block of all logs and nothing else.
unfoldable pub read_sheet_of : List ℕ → Sheet
read_sheet_of s = sheet_of s (next (read_all (from_all_of true s)) (λ t r. pick (length r =? 0) (got t r) (wrong r)))

-- ---- the answers of the code

abbrev pub sheet_in : Result Total Wrong → Sheet
sheet_in (ok t) = whole (total_in t)
sheet_in (no w) = no_sheet w.line
