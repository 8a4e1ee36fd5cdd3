-- What is taken of a log that goes through a window into a report.
use Rattle.std.specs.Prelude.{◌+◌, ◌-◌, ◌≤◌, ◌≡◌, Option, Some, None, Result, Ok, Err}
use Rattle.text.specs.Prelude.{ℕ, Bool, true, false, List, length, take, drop, pick, ◌≤?◌, ◌=?◌}
use Rattle.text.specs.Prelude.{largest}
use Rattle.std.proofs.lemmas.List.Edits.{sets}
use Rattle.igc_log.specs.Log.{closed, readings}
use Rattle.window.specs.Piece.{piece_end_of}
use Rattle.files.specs.Outcome.{Outcome}
use Rattle.files.specs.declared.{input.Filled.Filled, input.NotRead.NotRead, outcome.Failure.Failure}
use Rattle.walk.specs.Readings.{reader}
use Rattle.report.specs.Report.{report_of}
use Rattle.reported.specs.Reported.{SoFar, nothing_yet, report_on_of, so_far_in}
use Rattle.sheets.specs.declared.Turn.{Turn}

-- The end of these lines stands in 64 bits.
unfoldable pub has_room_of : SoFar → List ℕ → Bool
has_room_of c lines = c.place + length lines ≤? largest

-- ---- a turn

-- What goes from read to read.
pub record Onward : Type 0 where
  pub sofar : SoFar
  -- Bytes that wait at the window's front.
  pub fill : ℕ
  -- How it ended, if no read is to follow.
  pub ended : Option Outcome

-- No read is to follow.
unfoldable pub stopped : SoFar → Outcome → Onward
stopped c o = record { sofar = c; fill = 0; ended = Some o }

-- After the last read all lines are taken; where they can't be, it was not read to its end.
unfoldable pub last_turn : SoFar → List ℕ → Onward
last_turn c lines =
    pick (has_room_of c lines) (stopped (report_on_of c lines) (Ok tt)) (stopped c (Err Failure.NotRead))

-- Whole lines of a full window w are taken, and what is behind them waits.
unfoldable pub take_whole : SoFar → List ℕ → ℕ → Onward
take_whole c w n =
    pick (has_room_of c (take n w))
    (record { sofar = report_on_of c (take n w); fill = length w - n; ended = None })
    (stopped c (Err Failure.NotRead))

-- Of a full window all whole lines are taken; where it has none, its line is too long.
unfoldable pub full_turn : SoFar → List ℕ → Onward
full_turn c w =
    pick (piece_end_of false w =? 0)
    (stopped c (Err (Failure.LongLine c.figures.lines)))
    (take_whole c w (piece_end_of false w))

-- By how far the window w was filled; of one that was not read nothing is taken.
abbrev pub turned : Result Filled NotRead → SoFar → List ℕ → Onward
turned (Ok (Filled.Ended n)) c w = last_turn c (take n w)
turned (Ok Filled.Full) c w = full_turn c w
turned (Err e) c w = stopped c (Err Failure.NotRead)

-- Where a read is to follow, what is behind the whole lines stands in front; else the window is as it was.
unfoldable pub window_after : Option Outcome → List ℕ → List ℕ
window_after None w = sets w 0 (drop (piece_end_of false w) w)
window_after (Some o) w = w

-- ---- from read to read

-- From c to c': some bytes were taken, all of them, and where more is to follow these are whole lines.
pub record Goes (c c' : SoFar) (more : Bool) : Type 0 where
  pub bytes : List ℕ
  pub room : c.place + length bytes ≤ largest
  pub made : c' ≡ report_on_of c bytes
  pub whole : more ≡ true → closed bytes ≡ true

-- What goes from the start is the report of these bytes, by its definition over the readings of a walk.
pub record FromStart : Type 0 where
  pub report : (c : SoFar) (more : Bool) (g : Goes nothing_yet c more) →
      c ≡ record { figures = report_of (readings reader g.bytes); place = length g.bytes }

-- ---- what the code holds

abbrev pub turn_in : Turn → Onward
turn_in t = record { sofar = so_far_in t.sofar; fill = t.fill; ended = t.ended }
