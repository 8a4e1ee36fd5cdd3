-- What is taken of a log that goes through a window to be judged as a claim.
use Rattle.std.specs.Prelude.{◌+◌, ◌-◌, ◌≡◌, ◌++◌, Option, Some, None, Result, Ok, Err}
use Rattle.text.specs.Prelude.{ℕ, Bool, false, List, length, take, drop, pick, ◌≤?◌, ◌=?◌}
use Rattle.text.specs.Prelude.{largest}
use Rattle.std.proofs.lemmas.List.Edits.{sets}
use Rattle.igc_log.specs.Log.{readings}
use Rattle.igc_log.specs.Fold.{over}
use Rattle.window.specs.Piece.{piece_end_of}
use Rattle.files.specs.Outcome.{Outcome}
use Rattle.files.specs.declared.{input.Filled.Filled, input.NotRead.NotRead, outcome.Failure.Failure}
use Rattle.walk.specs.Readings.{reader}
use Rattle.claim.specs.Claim.{claim_of}
use Rattle.claim.specs.Step.{fresh, claim_step, claim_on_of, verdict_at_end}
use Rattle.claim.specs.declared.Sofar.{Sofar}
use Rattle.claims.specs.declared.Turn.{Turn}

-- The number of each of these lines stands in 64 bits: there are no more of them than bytes.
unfoldable pub has_room_of : Sofar → List ℕ → Bool
has_room_of c lines = c.lines + length lines ≤? largest

-- ---- a turn

-- No read is to follow.
unfoldable pub stopped : Sofar → Outcome → Turn
stopped c o = record { sofar = c; fill = 0; ended = Some o }

-- After the last read all lines are taken; where they can't be, it was not read to its end.
unfoldable pub last_turn : Sofar → List ℕ → Turn
last_turn c lines = pick (has_room_of c lines) (stopped (claim_on_of c lines) (Ok tt)) (stopped c (Err Failure.NotRead))

-- How many bytes of a full window w are taken: its whole lines. Where it has none it is the front of a line that is too
-- long whatever follows, and all of it is taken.
unfoldable pub leaving : List ℕ → ℕ
leaving w = pick (piece_end_of false w =? 0) (length w) (piece_end_of false w)

-- The first n bytes of a full window w are taken, and what is behind them waits.
unfoldable pub take_front : Sofar → List ℕ → ℕ → Turn
take_front c w n =
    pick (has_room_of c (take n w))
    (record { sofar = claim_on_of c (take n w); fill = length w - n; ended = None })
    (stopped c (Err Failure.NotRead))

-- A full window.
unfoldable pub full_turn : Sofar → List ℕ → Turn
full_turn c w = take_front c w (leaving w)

-- By how far the window w was filled; of one that was not read nothing is taken.
abbrev pub turned : Result Filled NotRead → Sofar → List ℕ → Turn
turned (Ok (Filled.Ended n)) c w = last_turn c (take n w)
turned (Ok Filled.Full) c w = full_turn c w
turned (Err e) c w = stopped c (Err Failure.NotRead)

-- Where a read is to follow, what was not taken stands in front; else the window is as it was.
unfoldable pub window_after : Option Outcome → List ℕ → List ℕ
window_after None w = sets w 0 (drop (leaving w) w)
window_after (Some o) w = w

-- ---- from read to read

-- Some bytes have left the window, and whatever follows them makes of c what they and it make of the start.
pub record Going (c : Sofar) : Type 0 where
  pub bytes : List ℕ
  pub made : (rest : List ℕ) →
      over claim_step c (readings reader rest) ≡ over claim_step fresh (readings reader (bytes ++ rest))

-- What c comes to is the verdict on some bytes, by its definition over the readings of a walk.
pub record Judged (c : Sofar) : Type 0 where
  pub bytes : List ℕ
  pub verdict : verdict_at_end c ≡ claim_of (readings reader bytes)
