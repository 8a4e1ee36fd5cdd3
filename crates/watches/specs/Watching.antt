-- What was written of a log that is watched while its bytes come, and what is carried on.
use Rattle.std.specs.Prelude.{◌+◌, ◌-◌, ◌≤◌, ◌<◌, ◌≡◌, Some, None, is_none, Result, Ok, Err, is_err}
use Rattle.text.specs.Prelude.{ℕ, Bool, true, false, List, length, take, drop}
use Rattle.std.proofs.lemmas.List.Edits.{sets}
use Rattle.igc_log.specs.Log.{closed}
use Rattle.igc_log.specs.Fold.{Carried, fed}
use Rattle.window.specs.Piece.{piece_end_of}
use Rattle.files.specs.Outcome.{Outcome}
use Rattle.files.specs.declared.{input.Came.Came, input.NotRead.NotRead, outcome.Failure.Failure}
use Rattle.watch_text.specs.Watch.{Running, watcher}
use Rattle.watch_text.specs.Feed.{Nothing, no_step, view}
use Rattle.watch_text.specs.declared.Watch.{Watch}
use Rattle.watches.specs.declared.{Went.Went, Turn.Turn}

-- Whole lines were written, all of them if nothing went wrong, and what is carried on is what they make of w.
pub record Written (w : Watch) (lines : List ℕ) (r : Went) : Type 0 where
  pub inside : r.taken ≤ length lines
  pub whole : r.taken < length lines → closed (take r.taken lines) ≡ true
  pub carried : view r.watch ≡ fed watcher no_step (view w) (take r.taken lines)
  pub all : is_err r.outcome ≡ false → r.taken ≡ length lines

-- From c to c': what is carried on is what some bytes make of c, and where more is to follow these are whole lines.
pub record Goes (c c' : Carried Running Nothing) (more : Bool) : Type 0 where
  pub bytes : List ℕ
  pub made : c' ≡ fed watcher no_step c bytes
  pub whole : more ≡ true → closed bytes ≡ true

-- Some bytes stand at the front of the window, of which n are whole lines: these were taken, and the others stand in
-- front now, as many as they are.
pub record Moved (w : Watch) (win win' front : List ℕ) (n : ℕ) (r : Turn) : Type 0 where
  pub made : view r.watch ≡ fed watcher no_step (view w) (take n front)
  pub fill : r.fill ≡ length front - n
  pub rest : win' ≡ sets win 0 (drop n front)

-- What the bytes at the window's front come to: where a read is to follow, all their whole lines were taken.
abbrev pub Moves : Watch → List ℕ → List ℕ → List ℕ → Turn → Type 0
Moves w win win' front r =
    Goes (view w) (view r.watch) (is_none r.ended)
    × (r.ended ≡ None → Moved w win win' front (piece_end_of false front) r)

-- The last lines were written, all of them if nothing went wrong.
pub record Finished (w : Watch) (lines : List ℕ) (r : Turn) : Type 0 where
  pub goes : Goes (view w) (view r.watch) false
  pub outcome : Outcome
  pub last : r.ended ≡ Some outcome
  pub made : is_err outcome ≡ false → view r.watch ≡ fed watcher no_step (view w) lines

-- No read is to follow.
unfoldable pub stopped : Watch → Outcome → Turn
stopped w o = record { watch = w; fill = 0; ended = Some o }

-- A turn, by what came behind the first n bytes of the window: whole lines go at once, a line without its end waits for
-- it or for the end of the input, and one that fills the window is too long.
abbrev pub Turned : Result Came NotRead → Watch → List ℕ → ℕ → List ℕ → Turn → Type 0
Turned (Ok (Came.Bytes k)) w win n win' r = Moves w win win' (take (n + k) win) r
Turned (Ok Came.Ended) w win n win' r = Finished w (take n win) r
Turned (Ok Came.NoRoom) w win n win' r = r ≡ stopped w (Err (Failure.LongLine w.at.number))
Turned (Err e) w win n win' r = r ≡ stopped w (Err Failure.NotRead)
