-- What was written of a log that goes through a window, and what is carried on.
use Rattle.std.specs.Prelude.{◌-◌, ◌≤◌, ◌<◌, ◌≡◌, Some, None, is_none, Result, Ok, Err, is_err}
use Rattle.text.specs.Prelude.{ℕ, Bool, true, false, List, length, take, drop}
use Rattle.std.proofs.lemmas.List.Edits.{sets}
use Rattle.igc_log.specs.Log.{closed}
use Rattle.igc_log.specs.Fold.{fed}
use Rattle.window.specs.Piece.{piece_end_of}
use Rattle.walk.specs.Readings.{reader}
use Rattle.trailer_text.specs.Trailer.{count_step}
use Rattle.products.specs.Feed.{view}
use Rattle.products.specs.declared.Carried.{Carried}
use Rattle.files.specs.Outcome.{Outcome}
use Rattle.files.specs.declared.{input.Filled.Filled, input.NotRead.NotRead, outcome.Failure.Failure}
use Rattle.stream.specs.declared.{Went.Went, Turn.Turn}

-- Whole lines were written, all of them if nothing went wrong, and what is carried on is what they make of c.
pub record Streamed (c : Carried) (lines : List ℕ) (r : Went) : Type 0 where
  pub inside : r.taken ≤ length lines
  pub whole : r.taken < length lines → closed (take r.taken lines) ≡ true
  pub carried : view r.carried ≡ fed reader count_step (view c) (take r.taken lines)
  pub all : is_err r.outcome ≡ false → r.taken ≡ length lines

-- From c to c': what is carried on is what some bytes make of c, and where more is to follow these are whole lines.
pub record Goes (c c' : Carried) (more : Bool) : Type 0 where
  pub bytes : List ℕ
  pub made : view c' ≡ fed reader count_step (view c) bytes
  pub whole : more ≡ true → closed bytes ≡ true

-- A full window was drained: the bytes are its whole lines, and the rest stands in front.
pub record Drained (c : Carried) (w w' : List ℕ) (r : Turn) : Type 0 where
  pub made : view r.carried ≡ fed reader count_step (view c) (take (piece_end_of false w) w)
  pub fill : r.fill ≡ length w - piece_end_of false w
  pub rest : w' ≡ sets w 0 (drop (piece_end_of false w) w)

-- What draining a full window comes to.
abbrev pub Drains : Carried → List ℕ → List ℕ → Turn → Type 0
Drains c w w' r = Goes c r.carried (is_none r.ended) × (r.ended ≡ None → Drained c w w' r)

-- The last lines were written, all of them if nothing went wrong.
pub record Finished (c : Carried) (lines : List ℕ) (r : Turn) : Type 0 where
  pub outcome : Outcome
  pub last : r.ended ≡ Some outcome
  pub made : is_err outcome ≡ false → view r.carried ≡ fed reader count_step (view c) lines

-- A turn, by how far the window w was filled: after the last read all of it is written, a full one is drained, and one
-- that was not read goes nowhere.
abbrev pub Turned : Result Filled NotRead → Carried → List ℕ → List ℕ → Turn → Type 0
Turned (Ok (Filled.Ended n)) c w w' r = Goes c r.carried (is_none r.ended) × Finished c (take n w) r
Turned (Ok Filled.Full) c w w' r = Drains c w w' r
Turned (Err e) c w w' r = r ≡ record { carried = c; fill = 0; ended = Some (Err Failure.NotRead) }
