-- What one call of `read` or of `write` did.
use Rattle.std.specs.Prelude.{◌+◌, ◌≤◌, ◌<◌, Option, Some, None, IfSome, Result, Ok, Err, IfOk}
use Rattle.std.specs.IoError.{raw_os_error}
use Rattle.std.specs.declared.io.Error.{Error}
use Rattle.text.specs.Prelude.{ℕ, zero, suc, Bool, false, List, length, ℤ, pos, negsuc, pick, ◌=?◌}
use Rattle.files.specs.declared.call.CallError.{CallError}

-- errno is that number.
unfoldable pub is_errno : ℕ → Option ℤ → Bool
is_errno n (Some (pos k)) = k =? n
is_errno n (Some (negsuc k)) = false
is_errno n None = false

-- By an error's number: a signal interrupted it (EINTR, 4), nobody reads the pipe any more (EPIPE, 32), or it failed.
abbrev pub call_error_of : Error → CallError
call_error_of why =
    pick (is_errno 4 (raw_os_error why)) CallError.Again
    (pick (is_errno 32 (raw_os_error why)) CallError.Closed CallError.Failed)

-- By its answer, that it moved no byte, how many it moved, or why it failed.
abbrev pub did_of : Result ℕ Error → Result (Option ℕ) CallError
did_of (Ok zero) = Ok None
did_of (Ok (suc n)) = Ok (Some (suc n))
did_of (Err why) = Err (call_error_of why)

-- Where some bytes were moved, these are one or more, and no more than there are from the place on.
abbrev pub NoMoreThan : {E : Type 0} → ℕ → List ℕ → Result (Option ℕ) E → Type 0
NoMoreThan at b r = IfOk r (λ m. IfSome m (λ n. (0 < n) × (at + n ≤ length b)))
