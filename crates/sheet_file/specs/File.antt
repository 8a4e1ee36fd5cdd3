-- What is read of a sheet that goes through a window.
use Rattle.std.specs.Prelude.{◌+◌, ◌-◌, ◌≡◌, Option, Some, None, option_map, Result, Ok, Err}
use Rattle.text.specs.Prelude.{ℕ, min, true, false, List, length, take, drop, pick, ◌=?◌, largest}
use Rattle.std.proofs.lemmas.List.Edits.{sets}
use Rattle.window.specs.Piece.{piece_end_of}
use Rattle.files.specs.declared.{input.Filled.Filled, input.NotRead.NotRead}
use Rattle.total.specs.Total.{Totals, total_in}
use Rattle.total.specs.declared.Total.{Total}
use Rattle.sheet_read.specs.Sheet.{from_all_of, ends, Sheet, whole, no_sheet, read_sheet_of}
use Rattle.sheet_file.specs.declared.{Turn.Turn, NoTotal.NoTotal}

-- The total of a file's sheet, or why it has none.
abbrev pub Answer : Type 0
Answer = Result Totals NoTotal

-- What goes from read to read.
pub record Onward : Type 0 where
  -- Lines that went by.
  pub before : ℕ
  -- Bytes that wait at the window's front.
  pub fill : ℕ
  -- The answer, if no read is to follow.
  pub ended : Option Answer

-- No read is to follow.
unfoldable pub stopped : Answer → Onward
stopped a = record { before = 0; fill = 0; ended = Some a }

-- Lines counted on, as far as 64 bits hold them.
abbrev pub counted : ℕ → ℕ → ℕ
counted before n = min (before + n) largest

-- The end of a sheet with so many lines before it: its total, or the line at which it is no sheet.
unfoldable pub ended_as : ℕ → Sheet → Onward
ended_as before (whole t) = stopped (Ok t)
ended_as before (no_sheet n) = stopped (Err (NoTotal.Wrong (counted before n)))

-- After the last read all is read.
unfoldable pub last_turn : ℕ → List ℕ → Onward
last_turn before s = ended_as before (read_sheet_of s)

-- How many bytes of whole lines stand before the first line that begins with `all `.
unfoldable pub passing : List ℕ → ℕ
passing w = let lines = take (piece_end_of false w) w in length lines - length (from_all_of true lines)

-- Of a full window n bytes go by.
unfoldable pub passed : ℕ → List ℕ → ℕ → Onward
passed before w n = record {
  before = counted before (ends (take n w));
  fill = length w - n;
  ended = None;
}

-- Of a full window the lines before the last block go by; where there are none, what begins there is too long.
unfoldable pub full_turn : ℕ → List ℕ → Onward
full_turn before w =
    pick (passing w =? 0) (stopped (Err (NoTotal.TooLong (counted before 1)))) (passed before w (passing w))

-- By how far the window w was filled; of one that was not read there is no total.
abbrev pub turned : Result Filled NotRead → ℕ → List ℕ → Onward
turned (Ok (Filled.Ended n)) before w = last_turn before (take n w)
turned (Ok Filled.Full) before w = full_turn before w
turned (Err e) before w = stopped (Err NoTotal.NotRead)

-- Where a read is to follow, what is behind the lines that went by stands in front; else the window is as it was.
unfoldable pub window_after : Option Answer → List ℕ → List ℕ
window_after None w = sets w 0 (drop (passing w) w)
window_after (Some a) w = w

-- ---- from read to read

-- The file had these bytes, and this is how their sheet ended.
pub record Ends (a : Answer) : Type 0 where
  pub bytes : List ℕ
  pub made : stopped a ≡ ended_as 0 (read_sheet_of bytes)

-- A total, or a line that is not one of a sheet, is told of all bytes of the file; else there is no total.
abbrev pub Told : Answer → Type 0
Told (Ok t) = Ends (Ok t)
Told (Err (NoTotal.Wrong n)) = Ends (Err (NoTotal.Wrong n))
Told (Err (NoTotal.TooLong n)) = Unit
Told (Err NoTotal.NotRead) = Unit

-- ---- what the code holds

abbrev pub answer_in : Result Total NoTotal → Answer
answer_in (Ok t) = Ok (total_in t)
answer_in (Err e) = Err e

abbrev pub turn_in : Turn → Onward
turn_in t = record {
  before = t.before;
  fill = t.fill;
  ended = option_map answer_in t.ended;
}
