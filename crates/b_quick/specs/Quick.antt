-- B lines whose numbers are plain digits. No definition of a line's reading cites this.
use Rattle.text.specs.Prelude.{None, Option, Some}
use Rattle.text.specs.Prelude.{ℕ, Bool, List, length, Res, ok, no, pick, ◌≤?◌, ◌∧?◌, cut, all_digits_of}
use Rattle.field.specs.Field.{is_ascii_of}
use Rattle.b_record.specs.BRecord.{read_b}
use Rattle.b_record.specs.declared.BRecord.{BRecord}

-- The numbers of a fix have digits alone, by blocks of columns.
unfoldable pub plain_digits : List ℕ → Bool
plain_digits s =
    all_digits_of (cut 1 9 s) ∧? all_digits_of (cut 6 14 s) ∧? all_digits_of (cut 15 23 s) ∧? all_digits_of (cut 25 33 s)
    ∧? all_digits_of (cut 27 35 s)

-- A line that the quick way takes: long enough, ASCII, and of plain digits.
unfoldable pub is_plain : List ℕ → Bool
is_plain s = (35 ≤? length s) ∧? is_ascii_of s ∧? plain_digits s

-- A fix, where one was read.
unfoldable pub fix_read : Res BRecord → Option BRecord
fix_read (ok b) = Some b
fix_read (no n) = None

-- What the quick way says of a line: the fix that is read of a plain one. Of other lines it says nothing.
unfoldable pub quick_of : List ℕ → Option BRecord
quick_of s = pick (is_plain s) (fix_read (read_b s)) None
