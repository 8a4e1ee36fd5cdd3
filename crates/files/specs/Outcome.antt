-- How a run ended.
use Rattle.std.specs.Prelude.{◌≡◌, Result, Ok, Err}
use Rattle.text.specs.Prelude.{ℕ, Bool, true, false, List, map, pick}
use Rattle.files.specs.Terminal.{visible}
use Rattle.files.specs.declared.{input.Filled.Filled, input.NotRead.NotRead}
use Rattle.files.specs.declared.{output.WriteError.WriteError, outcome.Failure.Failure}

-- `Outcome`: nothing went wrong, or what did.
abbrev pub Outcome : Type 0
Outcome = Result Unit Failure

-- What was written is true as far as it goes, and the log goes on.
abbrev pub cuts_short_of : Failure → Bool
cuts_short_of Failure.NotRead = true
cuts_short_of (Failure.LongLine n) = true
cuts_short_of (Failure.NoRoom n) = true
cuts_short_of Failure.NotWritten = false
cuts_short_of Failure.Closed = false

-- Nobody reads the text any more, or it could not be written.
abbrev pub failure_of : WriteError → Failure
failure_of WriteError.Closed = Failure.Closed
failure_of WriteError.Failed = Failure.NotWritten

-- A text that was not written whole is never taken for written.
abbrev pub outcome_of : Result Unit WriteError → Outcome
outcome_of (Ok u) = Ok u
outcome_of (Err why) = Err (failure_of why)

-- A log that could not be read to its end has no good outcome, whatever was written.
abbrev pub outcome_after : Result Filled NotRead → Outcome → Outcome
outcome_after (Ok f) o = o
outcome_after (Err e) o = Err Failure.NotRead

-- A text as it is sent: to a terminal made visible, to anything else as it is.
pub record Sent (text sent : List ℕ) : Type 0 where
  pub terminal : Bool
  pub content : sent ≡ pick terminal (map visible text) text
